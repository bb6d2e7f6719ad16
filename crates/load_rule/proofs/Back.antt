-- What is laid in rows and a pool is read back from them; the class rows of a mapping are its classes. Assumes nothing.
use mathlib.Core.Path.{◌≡◌, refl}
use mathlib.Core.List.{List, [], ◌∷◌, ◌++◌, map}
use Prim.Native.Nat.{ℕ, ◌+◌}
use lib.ListN.{length}
use Rattle.ground.specs.Join.{join}
use Rattle.table_rows.specs.Classes.{Pair}
use Rattle.tables.specs.declared.check.Used.{Used}
use Rattle.tables.specs.Back.{pair_of, read_back}
use Rattle.tables.proofs.Holding.{Holds, holds_all, holds_first, holds_second}
use Rattle.load_rule.specs.Classes.{class_text, class_pool, class_row, class_rows}
use Rattle.load_rule.specs.Laid.{rows_from}
use Rattle.ground.proofs.Joins.{cons_same}

-- `read` reads back what `row` lays
module _ (pool : List ℕ) (used : Used) {A : Type 0} (row : ℕ → A → List ℕ) (text : A → List ℕ) (read : List ℕ → A)
    (one : (p : ℕ) (x : A) → Holds pool used p (text x) → read (row p x) ≡ x) where
  pub laid_back : (p : ℕ) (xs : List A) → Holds pool used p (join (map text xs)) → map read (rows_from row text p xs) ≡ xs
  unfolding rows_from join
  laid_back p [] h = refl
  laid_back p (x ∷ xs) h =
      cons_same (one p x (holds_first (text x) (join (map text xs)) h))
      (laid_back (p + length (text x)) xs (holds_second (text x) (join (map text xs)) h))

module _ (pool : List ℕ) (used : Used) where
  class_back : (p : ℕ) (c : Pair) → Holds pool used p (class_text c) → pair_of pool (class_row p c) ≡ c
  class_back p c h = rw ((holds_first c.raw c.display h).is, (holds_second c.raw c.display h).is)

  pub class_rows_back : (p : ℕ) (cs : List Pair) → Holds pool used p (class_pool cs) → read_back (class_rows p cs) pool ≡ cs
  class_rows_back p cs h = laid_back pool used class_row class_text (pair_of pool) class_back p cs h

-- whatever stands behind them in the pool
pub classes_back : (cs : List Pair) (rest : List ℕ) → read_back (class_rows 0 cs) (class_pool cs ++ rest) ≡ cs
classes_back cs rest =
    let used : Used = record { classes = 0; members = 0; pool = length (class_pool cs) } in
    class_rows_back (class_pool cs ++ rest) used 0 cs (holds_all (class_pool cs) rest used refl)
