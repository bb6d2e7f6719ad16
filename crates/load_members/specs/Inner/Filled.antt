-- What writing all members says of the rows and the pool.
use Rattle.std.specs.Prelude.{◌≡◌, ◌⊎◌, List, [], ℕ, ◌+◌, ◌≤◌, ◌<◌, length, Result, Ok, Err}
use Rattle.ground.specs.Put.{put}
use Rattle.table_rows.specs.Classes.{Pair}
use Rattle.table_pool.specs.Inner.Wrote.{Written}
use Rattle.load_rule.specs.declared.Fates.{Fates}
use Rattle.load_rule.specs.Fates.{scan_of, fault_at}
use Rattle.load_rule.specs.Members.{Entry, under, entries_from, entry_pool, entry_rows}
use Rattle.load_rule.specs.declared.Fault.{Fault}
use Rattle.load_members.specs.declared.fill.FillError.{FillError}
use Rattle.load_members.specs.declared.fill.Filled.{Filled}
use Rattle.load_members.specs.declared.fill.FillError.TheVariants.{Faulty, Short}

abbrev pub filled_to : Fates → ℕ → Filled
filled_to fates e = record { fates = fates; «end» = e }

-- the members `es` are written: their rows into `m`, their texts into the pool `p` from the place `at` on
pub record Holding (es : List Entry) (at q : ℕ) (m : List (List ℕ)) (p : List ℕ) (m₁ : List (List ℕ)) (p₁ : List ℕ) : Type 0 where
  pub room : length es ≤ length m
  pub rows : m₁ ≡ put m 0 (entry_rows at es)
  pub texts : Written q p at (entry_pool es) p₁

-- they do not fit
abbrev pub Over : List Entry → ℕ → List (List ℕ) → List ℕ → Type 0
Over es at m p = (length m < length es) ⊎ (length p < at + length (entry_pool es))

abbrev pub members : List (List ℕ) → List Pair → List Entry
members ls cs = entries_from cs (under 0 []) ls

-- all members of the lines `ls` are written, and `f` is what became of the lines
pub record WrittenAll (f : Fates) (ls : List (List ℕ)) (cs : List Pair) (at q : ℕ) (m : List (List ℕ)) (p : List ℕ)
    (m₁ : List (List ℕ)) (p₁ : List ℕ) : Type 0 where
  pub scanned : scan_of ls ≡ Ok f
  pub held : Holding (members ls cs) at q m p m₁ p₁

-- they are not, and `s` is the first faulty line or what became of all lines
pub record CutShort (s : Result Fates Fault) (ls : List (List ℕ)) (cs : List Pair) (at : ℕ) (m : List (List ℕ)) (p : List ℕ) : Type 0 where
  pub scanned : s ≡ scan_of ls
  pub over : Over (members ls cs) at m p

abbrev pub FilledBy : Result Filled FillError → List (List ℕ) → List Pair → ℕ → List (List ℕ) → List ℕ → List (List ℕ) → List ℕ → Type 0
FilledBy (Ok r) ls cs at m p m₁ p₁ = WrittenAll r.fates ls cs at r.«end» m p m₁ p₁
FilledBy (Err (Faulty r)) ls cs at m p m₁ p₁ = scan_of ls ≡ Err (fault_at r.number r.line)
FilledBy (Err (Short s)) ls cs at m p m₁ p₁ = CutShort s ls cs at m p
