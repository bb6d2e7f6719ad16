-- Writing behind what was written.
use Rattle.std.specs.Prelude.{List, ◌++◌, ℕ, Result}
use Rattle.table_pool.specs.Inner.Wrote.{WroteBy}
use Rattle.table_pool.specs.declared.write.NoRoom.{NoRoom}

-- Where `before` is the answer of writing any bytes `a` into `d`, which left `out`, `r` is the answer of writing those and `b`, which
-- leaves `out₁`.
pub record Adds (before r : Result ℕ NoRoom) (out b out₁ : List ℕ) : Type 0 where
  pub adds : (d a : List ℕ) → WroteBy before d 0 a out → WroteBy r d 0 (a ++ b) out₁
