-- The words of the theorems about loading (proofs/Sums, First, Exactly, Formed): what an accepted load counts and uses, which line is the
-- first faulty one, and when each answer is given.
use Rattle.std.specs.Prelude.{◌≡◌, false, List, ◌∷◌, ◌++◌, ℕ, ◌+◌, ◌≤◌, ◌<◌, min, length, Ok, Err, Result}
use Rattle.text_utf8.specs.Utf8.{check_of, broken}
use Rattle.line.specs.Kinds.{line_of}
use Rattle.table_rows.specs.Rows.{most_classes, most_members, most_pool}
use Rattle.tables.specs.declared.check.Used.{Used}
use Rattle.load_rule.specs.declared.Fates.{Fates}
use Rattle.load_rule.specs.Fates.{fates_from, fault_of, scan_of, fault_at, loaded_with}
use Rattle.load_rule.specs.Classes.{classes_of}
use Rattle.load_rule.specs.Loading.{Lent, pool_of, most_text}
use Rattle.load_rule.specs.declared.Loaded.{Loaded}
use Rattle.load_rule.specs.declared.LoadError.{LoadError}
use Rattle.load_rule.specs.declared.LoadError.TheVariants.{Faulty, NotUtf8, TooLong, NoClasses, FewClassRows, FewMemberRows, ShortPool}

-- what an accepted load counts
pub record Counts (ls : List (List ℕ)) (f : Fates) : Type 0 where
  pub adds : f.blank + f.applied + f.idle + f.class + f.field + f.method ≡ f.lines
  pub every : f.lines ≡ length ls
  pub short : f.short ≤ f.method
  pub is : f ≡ fates_from false ls

-- what an accepted load uses
abbrev pub used_of : Fates → ℕ → Used
used_of f names = record { classes = f.class; members = f.field + f.method; pool = names }

-- The first faulty line: it stands behind lines that have no fault, its number is its place counted from 1, and the fault is the one that
-- it has where so many class lines stand before it.
pub record First (ls : List (List ℕ)) (number line : ℕ) : Type 0 where
  pub before : List (List ℕ)
  pub here : List ℕ
  pub after : List (List ℕ)
  pub split : ls ≡ before ++ (here ∷ after)
  pub place : line ≡ length before + 1
  pub sound : scan_of before ≡ Ok (fates_from false before)
  pub is : number ≡ fault_of (length (classes_of before)) (line_of here)
  pub low : 3 ≤ number
  pub high : number ≤ 7

-- a text that is not too long and is UTF-8
pub record Read (s : List ℕ) : Type 0 where
  pub short : length s ≤ most_text
  pub valid : check_of s ≡ Ok tt

-- its lines are sound, and what became of them is `f`
pub record Passed (s : List ℕ) (ls : List (List ℕ)) (f : Fates) : Type 0 where
  pub short : length s ≤ most_text
  pub valid : check_of s ≡ Ok tt
  pub sound : scan_of ls ≡ Ok f

-- and all of it has room
pub record Fitted (s : List ℕ) (ls : List (List ℕ)) (n : Lent) (f : Fates) (names : ℕ) : Type 0 where
  pub passed : Passed s ls f
  pub some : 0 < f.class
  pub class_rows_lem : f.class ≤ min n.classes most_classes
  pub member_rows : f.field + f.method ≤ min n.members most_members
  pub pool_bytes : length (pool_of ls) ≤ min n.pool most_pool
  pub named : names ≡ length (pool_of ls)

-- The answer of a load, from the first test to the last: each way on is one test.
pub data Way (s : List ℕ) (ls : List (List ℕ)) (n : Lent) : Result Loaded LoadError → Type 0 where
  too_long : most_text < length s → Way s ls n (Err TooLong)
  not_utf8 : {v k : ℕ} → length s ≤ most_text → check_of s ≡ Err (broken v k) → Way s ls n (Err (NotUtf8 v k))
  faulty : {number line : ℕ} → Read s → scan_of ls ≡ Err (fault_at number line) → Way s ls n (Err (Faulty (fault_at number line)))
  no_classes : {f : Fates} → Passed s ls f → f.class ≡ 0 → Way s ls n (Err NoClasses)
  few_class_rows : {f : Fates} → Passed s ls f → 0 < f.class → min n.classes most_classes < f.class → Way s ls n (Err FewClassRows)
  few_member_rows : {f : Fates} → Passed s ls f → 0 < f.class → f.class ≤ min n.classes most_classes →
      min n.members most_members < f.field + f.method → Way s ls n (Err FewMemberRows)
  short_pool : {f : Fates} → Passed s ls f → 0 < f.class → f.class ≤ min n.classes most_classes →
      f.field + f.method ≤ min n.members most_members → min n.pool most_pool < length (pool_of ls) → Way s ls n (Err ShortPool)
  loaded : {f : Fates} {names : ℕ} → Passed s ls f → 0 < f.class → f.class ≤ min n.classes most_classes →
      f.field + f.method ≤ min n.members most_members → length (pool_of ls) ≤ min n.pool most_pool →
      names ≡ length (pool_of ls) → Way s ls n (Ok (loaded_with f names))
