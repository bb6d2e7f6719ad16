-- The loops of the program stay within their slices and end. Assumes nothing.
use Rattle.std.specs.Prelude.{Option, Some}
use mathlib.Core.Path.{◌≡◌, sym, ◌∙◌}
use mathlib.Core.List.{List}
use Prim.Native.Nat.{ℕ, ◌+◌, ◌-◌, ◌^◌, ◌≤◌, ◌<◌}
use native.Mathlib.Omega.{arith}
use lib.ListN.{length, drop, set, length-set, length-drop}
use mir.Val.{Fits}
use mir.Syntax.{w64}
use borrow.Author.Rules.{rules}
use Rattle.ground.proofs.Parts.{prefix_size, prefix_whole}
use Rattle.text_places.specs.Places.{first_where, starts}
use Rattle.text_places.proofs.PlaceLaws.{first_inside}
use Rattle.text_places.proofs.Taking.{Taking, taking_starts, line_next, line_falls, line_starts, line_ends}
use Rattle.text_utf8.specs.declared.sequence.Sequence.{Sequence}
use Rattle.text_utf8.specs.declared.sequence.Sequence.TheVariants.{Good, Bad}
use Rattle.text_utf8.specs.Utf8.{sequence_of}
use Rattle.text_utf8.proofs.Sequences.{good_fits, bad_fits}

-- sequences are taken one after the other
module _ (s : List ℕ) (at : ℕ) {t : Sequence} (p : t ≡ sequence_of (drop at s)) where
  module _ {d m : ℕ} (q : t ≡ Good d m) where
    reach : (0 < m) × (m ≤ length (drop at s))
    reach = good_fits (drop at s) (sym p ∙ q)

    pub good_next : at < length s → Taking s (at + m)
    good_next h = let g = reach in record { inside = omega (arith, length-drop at s) }

    pub good_fits_word : at < length s → length s < 2 ^ 64 → Fits w64 (at + m)
    good_fits_word h b = let g = reach in omega (arith, length-drop at s)

    pub good_falls : at < length s → length s - (at + m) < length s - at
    good_falls h = let g = reach in omega (arith, length-drop at s)

  module _ {m : ℕ} (q : t ≡ Bad m) where
    stop : m ≤ length (drop at s)
    stop = bad_fits (drop at s) (sym p ∙ q)

    pub bad_next : at < length s → Taking s (at + m)
    bad_next h = let g = stop in record { inside = omega (arith, length-drop at s) }

    pub bad_fits_word : at < length s → length s < 2 ^ 64 → Fits w64 (at + m)
    bad_fits_word h b = let g = stop in omega (arith, length-drop at s)

    pub bad_falls : at < length s → (m ≡ 0 → ⊥) → length s - (at + m) < length s - at
    bad_falls h n = let g = stop in omega (arith, length-drop at s)

pub ruleset taking = (taking_starts, line_next, line_falls, line_starts, line_ends, good_next, good_fits_word, good_falls, bad_next, bad_fits_word, bad_falls, rules)

-- a kind, a space, and what is asked
module _ (s : List ℕ) {p : Option ℕ} {i : ℕ} (e : p ≡ first_where (starts 0x20) s) (g : p ≡ Some i) where
  pub space_inside : i < length s
  space_inside = first_inside (starts 0x20) s (sym e ∙ g)

  pub space_past : i + 1 ≤ length s
  space_past = let h = space_inside in omega arith

  pub space_fits : length s < 2 ^ 64 → Fits w64 (i + 1)
  space_fits b = let h = space_inside in omega arith

pub ruleset splitting = (space_inside, space_past, space_fits, prefix_size, rules)
