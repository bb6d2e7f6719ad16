-- Trimming from the start, by the white space character at each place. Assumes nothing.
use mathlib.Core.Path.{◌≡◌, refl, sym, ◌∙◌}
use mathlib.Core.Bool.{Bool, true, false}
use mathlib.Core.List.{List}
use Prim.Native.Nat.{ℕ, ◌+◌, ◌-◌, ◌^◌, ◌<◌}
use native.Mathlib.Omega.{arith}
use lib.ListN.{length, drop}
use mir.Val.{Fits}
use mir.Syntax.{w64}
use borrow.Author.Rules.{rules}
use Rattle.ground.specs.Choice.{pick}
use Rattle.text_utf8.specs.declared.sequence.Sequence.{Sequence}
use Rattle.text_utf8.specs.declared.sequence.Sequence.TheVariants.{End, Good, Bad}
use Rattle.text_utf8.specs.Utf8.{sequence_of, pieces}
use Rattle.text_utf8.proofs.Pieces.{good_inside}
use Rattle.text_white.specs.White.{is_white}
use Rattle.text_white.specs.Trim.{run_of}
use Rattle.text_white.specs.Inner.Before.{white_length_of, white_length}
use Rattle.text_white.proofs.TrimLaws.{Running, run_starts, run_ends, run_end, run_bad, run_stops, run_more}
use Rattle.text_white.proofs.Ink.{run_ink, run_space}
use Rattle.text_white.proofs.Sync.{white_length_reads}

module _ {s : List ℕ} {at : ℕ} (k : Running is_white s at) {r : ℕ} (e : r ≡ white_length (drop at s)) where
  pub run_none : r ≡ 0 → at ≡ run_of is_white (pieces s)
  run_none z = go (sequence_of (drop at s)) refl (sym e ∙ z)
    where
      by : (d m : ℕ) (b : Bool) → is_white d ≡ b → pick b m 0 ≡ 0 → Good d m ≡ sequence_of (drop at s) → at ≡ run_of is_white (pieces s)
      by d m true y p g = absurd (let i = (good_inside s at (sym g)).0 in omega arith)
      by d m false y p g = run_stops k g refl y

      go : (t : Sequence) → t ≡ sequence_of (drop at s) → white_length_of t ≡ 0 → at ≡ run_of is_white (pieces s)
      go End g p = run_end k g refl
      go (Good d m) g p = by d m (is_white d) refl p g
      go (Bad m) g p = run_bad k g refl

  module _ (n : r ≡ 0 → ⊥) where
    whole : (d : ℕ) × (sequence_of (drop at s) ≡ Good d r) × (is_white d ≡ true)
    whole = white_length_reads (drop at s) r (sym e) (omega arith)

    pub run_white : Running is_white s (at + r)
    run_white = run_more k (sym whole.1) refl whole.2

    pub white_fits : length s < 2 ^ 64 → Fits w64 (at + r)
    white_fits z = let i = good_inside s at whole.1 in omega arith

    pub white_falls : length s - (at + r) < length s - at
    white_falls = let i = good_inside s at whole.1 in omega arith

pub ruleset starting = (run_starts, run_ends, run_ink, run_space, run_none, run_white, white_fits, white_falls, rules)
