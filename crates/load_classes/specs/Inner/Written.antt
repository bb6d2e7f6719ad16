-- What writing all classes says. "One row per line, in text order."
use Rattle.std.specs.Prelude.{◌≡◌, List, ℕ, ◌≤◌, ◌<◌, length, Result, Ok, Err}
use Rattle.ground.specs.Put.{put}
use Rattle.table_pool.specs.Inner.Wrote as pool
use Rattle.tables.specs.Back.{read_back}
use Rattle.load_raw_types.specs.Inner.Behind.{Below}
use Rattle.load_rule.specs.Classes.{classes_of, class_pool, class_rows}
use Rattle.load_classes.specs.declared.write.ClassesError.{ClassesError}
use Rattle.load_classes.specs.declared.write.Classes.{Classes}
use Rattle.load_classes.specs.declared.write.ClassesError.TheVariants.{FewRows, ShortPool}

abbrev pub classes_to : ℕ → ℕ → Classes
classes_to count e = record { count = count; «end» = e }

-- The classes of the lines `ls` are written into the rows `c` and the pool `p`, which are `c₁` and `p₁` then. `count` says how many
-- rows are used, and `q` where the descriptors end.
pub record ClassesAt (count q : ℕ) (ls : List (List ℕ)) (c : List (List ℕ)) (p : List ℕ)
    (c₁ : List (List ℕ)) (p₁ : List ℕ) : Type 0 where
  pub counted : count ≡ length (classes_of ls)
  pub room : length (classes_of ls) ≤ length c
  pub rows : c₁ ≡ put c 0 (class_rows 0 (classes_of ls))
  pub texts : pool.Written q p 0 (class_pool (classes_of ls)) p₁
  pub below : Below (class_rows 0 (classes_of ls)) p₁ q
  pub back : read_back (class_rows 0 (classes_of ls)) p₁ ≡ classes_of ls

abbrev pub ClassesBy : Result Classes ClassesError → List (List ℕ) → List (List ℕ) → List ℕ → List (List ℕ) → List ℕ → Type 0
ClassesBy (Ok r) ls c p c₁ p₁ = ClassesAt r.count r.«end» ls c p c₁ p₁
ClassesBy (Err FewRows) ls c p c₁ p₁ = length c < length (classes_of ls)
ClassesBy (Err ShortPool) ls c p c₁ p₁ = length p < length (class_pool (classes_of ls))
