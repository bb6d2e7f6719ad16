-- A text taken piece by piece, as lines are: each place is inside it, and each piece leaves less. Assumes nothing.
use Rattle.std.specs.Prelude.{Option, Some, None}
use mathlib.Core.Path.{◌≡◌, refl, sym, ◌∙◌, ap}
use mathlib.Core.List.{List, [], ◌∷◌}
use Prim.Native.Nat.{ℕ, ◌-◌, ◌≤◌, ◌<◌}
use native.Mathlib.Omega.{arith}
use lib.ListN.{length, drop, drop_of_length-le}
use Rattle.ground.proofs.Answered.{some_part}
use Rattle.text_places.specs.Lines.{raw_lines, lines, Taken}
use Rattle.text_places.specs.Inner.NextLine.{line_from, next_line, taken_line}
use Rattle.text_places.proofs.LineLaws.{line_split}
use Rattle.text_places.specs.declared.lines.NextLine.{NextLine}

-- the place up to which a text was taken
pub record Taking (s : List ℕ) (at : ℕ) : Type 0 where
  pub inside : at ≤ length s

pub taking_starts : (s : List ℕ) → Taking s 0
taking_starts s = omega arith

pub starts_there : (at : ℕ) (l : List ℕ) {a e n : ℕ} → line_from at l ≡ Some (taken_line a e n) → at ≡ a
starts_there at [] q = absurd (let z : ◌≡◌ {A = ℕ} 0 1 = cc in omega arith)
starts_there at (b ∷ l) q = some_part (λ (r : NextLine). r.start) q

module _ (s : List ℕ) (at : ℕ) {a e n : ℕ} {t : Option NextLine} (p : t ≡ next_line s at) (q : t ≡ Some (taken_line a e n)) where
  pub line_taken : Taken s at a e n
  line_taken = line_split s at (sym p ∙ q)

  pub line_past : at < n
  line_past = line_taken.past

  pub line_inside : n ≤ length s
  line_inside = line_taken.inside

  pub line_next : Taking s n
  line_next = record { inside = line_inside }

  pub line_falls : at < length s → length s - n < length s - at
  line_falls h = let l = line_taken in omega arith

  pub line_order : a ≤ e
  line_order = line_taken.order

  pub line_starts : at ≤ e
  line_starts = let l = line_taken in let k = starts_there at (drop at s) (sym p ∙ q) in omega arith

  pub line_ends : e ≤ length s
  line_ends = line_taken.ends

empty_there : (at : ℕ) (l : List ℕ) → line_from at l ≡ None → l ≡ []
empty_there at [] q = refl
empty_there at (b ∷ l) q = absurd (let z : ◌≡◌ {A = ℕ} 0 1 = cc in omega arith)

-- where there is no line, none is left
pub none_taken : (s : List ℕ) (at : ℕ) {t : Option NextLine} → t ≡ next_line s at → t ≡ None → lines (drop at s) ≡ []
unfolding raw_lines
none_taken s at p q = ap lines (empty_there at (drop at s) (sym p ∙ q))

pub end_taken : (s : List ℕ) (at : ℕ) → length s ≤ at → lines (drop at s) ≡ []
unfolding raw_lines
end_taken s at h = ap lines (drop_of_length-le s h)
