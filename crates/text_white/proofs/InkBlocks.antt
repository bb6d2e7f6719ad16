-- Runs of ink, by blocks. Assumes nothing.
use mathlib.Core.Path.{◌≡◌, refl, sym, ◌∙◌, ap}
use mathlib.Core.Bool.{Bool, true, false, not}
use mathlib.Core.List.{List}
use Prim.Native.Nat.{ℕ, ◌+◌, ◌*◌, ◌≤◌, ◌<◌}
use native.Mathlib.Omega.{arith}
use lib.Count.{count_trailing_zeros}
use lib.ListN.{length, get_or}
use borrow.Author.Rules.{rules}
use borrow.Author.Tests.{not-false}
use Rattle.ground.specs.Choice.{pick, bit}
use Rattle.ground.proofs.Stretch.{along_none, block_inside, along_told, along_in_block}
use Rattle.text_places.specs.Inner.Blocks.{mask_of}
use Rattle.text_places.proofs.PlaceLaws.{Seeking, seeking_starts, seeking_more}
use Rattle.text_places.proofs.BlockLaws.{seek_past}
use Rattle.text_places.proofs.MaskLaws.{Passed, passed_none, passed_more, passed_all, whole_zeros, masking}
use Rattle.text_white.specs.Trim.{starts_white}
use Rattle.text_white.specs.Inner.Inked.{ink, no_ink, Inked}
use Rattle.text_white.proofs.TrimLaws.{first_white_lem}
use Rattle.text_white.proofs.Ink.{ink_passed}

-- One byte.
module _ (b : ℕ) {r : Bool} (e : r ≡ ink b) where
  pub no_gap_more : r ≡ true → (h : Bool) → h ≡ pick (no_ink b) true h
  no_gap_more f h = sym (ap (λ t. pick (not t) true h) (sym e ∙ f))

  pub gap_more : r ≡ false → (h : Bool) → true ≡ pick (no_ink b) true h
  gap_more f h = sym (ap (λ t. pick (not t) true h) (sym e ∙ f))

  pub no_gap_digit : r ≡ true → 0 ≡ bit (no_ink b)
  no_gap_digit f = sym (ap (λ t. bit (not t)) (sym e ∙ f))

  pub gap_digit : r ≡ false → 1 ≡ bit (no_ink b)
  gap_digit f = sym (ap (λ t. bit (not t)) (sym e ∙ f))

pub ruleset gaps = (no_gap_more, gap_more, no_gap_digit, gap_digit, rules)

-- A block.
pub passed_gaps : {s : List ℕ} {at i : ℕ} {holds : Bool} → Passed no_ink s at holds i → 16 ≤ i → holds ≡ false →
    (k : ℕ) → k < 16 → no_ink (get_or s (at + k) 0) ≡ false
passed_gaps w h f k l = passed_all w h f k l

pub ruleset gaps_passing = (passed_none, passed_more, passed_gaps, rules)

pub gap_zeros : (s : List ℕ) (at : ℕ) {l h : ℕ} → l ≡ mask_of no_ink s at 8 → h ≡ mask_of no_ink s (at + 8) 8 →
    (k : ℕ) → k < count_trailing_zeros 16 (l + 256 * h) → no_ink (get_or s (at + k) 0) ≡ false
gap_zeros s at e f k u = whole_zeros no_ink s at e f k u

pub ruleset gap_masking = (gap_zeros, masking)

-- Blocks.
pub ruleset ink_blocks = (along_none, block_inside, along_told, along_in_block, rules)

-- no white space starts in ink
pub seek_ink : {s : List ℕ} {to : ℕ} → Inked s to → Seeking starts_white s to
seek_ink {s} {to} w =
    let q : 0 + to ≡ to = omega arith in
    rw q at (seek_past starts_white s to 0 (seeking_starts starts_white s) (omega (arith, w.inside))
    (λ i l. ink_passed s i (omega (arith, w.inside)) refl (not-false (ink (get_or s i 0)) (w.each i (omega arith) (omega arith)))))

-- two bytes of ink
pub seek_two : {s : List ℕ} {at : ℕ} → Seeking starts_white s at → at + 1 < length s →
    {r : Bool} → r ≡ ink (get_or s at 0) → r ≡ true → {t : Bool} → t ≡ ink (get_or s (at + 1) 0) → t ≡ true → Seeking starts_white s (at + 1 + 1)
seek_two {s} {at} k h e f g i =
    seeking_more (seeking_more k (omega arith) (ink_passed s at (omega arith) e f)) h (ink_passed s (at + 1) h g i)

pub ruleset first_past_blocks = (seek_ink, ink_passed, first_white_lem)
