-- An ASCII character above the space is no white space, which its byte alone tells. Assumes nothing.
use mathlib.Core.Path.{◌≡◌, refl, sym, ◌∙◌}
use mathlib.Core.Bool.{Bool, true, false}
use mathlib.Core.List.{List}
use Prim.Native.Nat.{ℕ, ◌+◌, ◌≤◌, ◌<◌}
use native.Mathlib.Omega.{arith}
use lib.ListN.{length, get_or, drop}
use borrow.Author.Rules.{rules}
use Rattle.ground.proofs.Cases.{within_both, within_yes, within_low, within_high}
use Rattle.text_utf8.specs.declared.sequence.Sequence.TheVariants.{Good}
use Rattle.text_utf8.specs.Utf8.{sequence_of, pieces}
use Rattle.text_utf8.proofs.Sequences.{sequence_ascii, sequence_end}
use Rattle.text_white.specs.White.{white_ranges, in_ranges, is_white}
use Rattle.text_white.specs.Trim.{run_of, starts_white}
use Rattle.text_white.specs.Inner.Inked.{ink}
use Rattle.text_white.proofs.TrimLaws.{Running, run_stops, run_more, white_none, white_some, last_white_lem}

pub ink_low : (b : ℕ) → b < 0x21 → false ≡ ink b
ink_low b h = sym (within_low 0x21 0x7F b h)

pub ink_high : (b : ℕ) → 0x80 ≤ b → false ≡ ink b
ink_high b h = sym (within_high 0x21 0x7F b (omega arith))

pub ink_inside : (b : ℕ) → 0x21 ≤ b → b < 0x80 → true ≡ ink b
ink_inside b l h = sym (within_yes 0x21 0x7F b l (omega arith))

pub ruleset ink_byte = (ink_low, ink_high, ink_inside, rules)

pub ink_dark : (x : ℕ) → ink x ≡ true → is_white x ≡ false
unfolding is_white in_ranges white_ranges
ink_dark x i =
    let l = (within_both 0x21 0x7F x i).0 in
    let h = (within_both 0x21 0x7F x i).1 in
    rw (
      within_high 0x9 0xD x (omega arith),
      within_high 0x20 0x20 x (omega arith),
      within_low 0x85 0x85 x (omega arith),
      within_low 0xA0 0xA0 x (omega arith),
      within_low 0x1680 0x1680 x (omega arith),
      within_low 0x2000 0x200A x (omega arith),
      within_low 0x2028 0x2029 x (omega arith),
      within_low 0x202F 0x202F x (omega arith),
      within_low 0x205F 0x205F x (omega arith),
      within_low 0x3000 0x3000 x (omega arith),
    )

pub space_white : (x : ℕ) → x ≡ 0x20 → is_white x ≡ true
unfolding is_white in_ranges white_ranges
space_white x e = rw e refl

module _ (s : List ℕ) (at : ℕ) where
  pub white_past : length s ≤ at → false ≡ starts_white (drop at s)
  white_past h = rw (← sequence_end s at h)

  module _ (h : at < length s) where
    pub ink_reads : ink (get_or s at 0) ≡ true → sequence_of (drop at s) ≡ Good (get_or s at 0) 1
    ink_reads i = let w = (within_both 0x21 0x7F (get_or s at 0) i).1 in sym (sequence_ascii s at h (omega arith))

    pub ink_passed : {r : Bool} → r ≡ ink (get_or s at 0) → r ≡ true → starts_white (drop at s) ≡ false
    ink_passed i t = let y = sym i ∙ t in rw (ink_reads y, ink_dark (get_or s at 0) y)

    pub run_ink : {r : Bool} → Running is_white s at → r ≡ ink (get_or s at 0) → r ≡ true → at ≡ run_of is_white (pieces s)
    run_ink k i t = let y = sym i ∙ t in run_stops k (sym (ink_reads y)) refl (ink_dark (get_or s at 0) y)

    -- a space alone tells that it is white
    pub space_reads : get_or s at 0 ≡ 0x20 → Good (get_or s at 0) 1 ≡ sequence_of (drop at s)
    space_reads e = sequence_ascii s at h (omega arith)

    pub run_space : Running is_white s at → get_or s at 0 ≡ 0x20 → Running is_white s (at + 1)
    run_space k e = run_more k (space_reads e) refl (space_white (get_or s at 0) e)

pub ruleset white_or_ink = (white_past, ink_passed, white_none, white_some, rules)

pub ruleset last_past_ink = (ink_passed, last_white_lem)
