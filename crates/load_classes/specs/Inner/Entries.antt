-- One class written: its descriptors and its row.
use Rattle.std.specs.Prelude.{◌≡◌, List, ℕ, ◌+◌, ◌<◌, length, set, Result, Ok, Err}
use Rattle.table_rows.specs.Classes.{Pair}
use Rattle.table_pool.specs.Inner.Wrote.{Written}
use Rattle.load_rule.specs.Classes.{class_text, class_row}
use Rattle.table_pool.specs.declared.write.NoRoom.{NoRoom}

-- The class `k` is the row `count` of the rows `c`, and its descriptors stand in the pool `p` from the place `at` to the place `q`. With
-- `₁`: after that.
pub record EnteredClass (q : ℕ) (k : Pair) (count at : ℕ) (c : List (List ℕ)) (p : List ℕ)
    (c₁ : List (List ℕ)) (p₁ : List ℕ) : Type 0 where
  pub written : Written q p at (class_text k) p₁
  pub row : c₁ ≡ set c count (class_row at k)

abbrev pub EnteredClassBy : Result ℕ NoRoom → Pair → ℕ → ℕ → List (List ℕ) → List ℕ → List (List ℕ) → List ℕ → Type 0
EnteredClassBy (Ok q) k count at c p c₁ p₁ = EnteredClass q k count at c p c₁ p₁
EnteredClassBy (Err _) k count at c p c₁ p₁ = length p < at + length (class_text k)
