-- The search in a table of ranges: its order lets it stop at the first range that starts above. Assumes nothing.
use mathlib.Core.Path.{◌≡◌, refl, sym, ◌∙◌}
use mathlib.Core.Bool.{true, false}
use mathlib.Core.List.{List, [], ◌∷◌}
use Prim.Native.Nat.{ℕ, ◌+◌, ◌≤◌, ◌<◌}
use native.Mathlib.Numerals.{add-one, add-two}
use native.Mathlib.Omega.{arith}
use lib.Dec.{leb}
use lib.ListN.{length, get_or, drop, length-drop}
use lib.Seq.{drop-cons}
use borrow.Author.Tests.{le-leb, leb-true}
use borrow.Author.Rules.{rules}
use Rattle.ground.specs.Choice.{both}
use Rattle.ground.proofs.Cases.{within_yes, within_low, within_high, both_left, both_right}
use Rattle.text_white.specs.White.{white_ranges, in_ranges, rising_from, rising}

-- the order of the table, proved once
pub white_rising : rising white_ranges ≡ true
unfolding rising_from white_ranges
white_rising = refl

-- where all that is left starts above the code point, none of it holds the code point
stops : (low : ℕ) (table : List ℕ) (code : ℕ) → rising_from low table ≡ true → code < low → in_ranges table code ≡ false
unfolding rising_from in_ranges
stops low [] code r h = refl
stops low (a ∷ []) code r h = refl
stops low (a ∷ (b ∷ table)) code r h =
    let la : low ≤ a = leb-true low a (both_left (leb low a) (both (leb a b) (rising_from b table)) r) in
    let rb : both (leb a b) (rising_from b table) ≡ true = both_right (leb low a) (both (leb a b) (rising_from b table)) r in
    let lb : a ≤ b = leb-true a b (both_left (leb a b) (rising_from b table) rb) in
    rw (within_low a b code (omega arith), stops b table code (both_right (leb a b) (rising_from b table) rb) (omega arith))

-- what is left of the table decides, and is in order
pub record Ranging (table : List ℕ) (code i : ℕ) : Type 0 where
  pub inside : i ≤ length table
  pub low : ℕ
  pub ordered : rising_from low (drop i table) ≡ true
  pub decides : in_ranges (drop i table) code ≡ in_ranges table code

pub ranging_starts : (table : List ℕ) (code : ℕ) → rising table ≡ true → Ranging table code 0
ranging_starts table code r = record { inside = omega arith; low = 0; ordered = r; decides = refl }

short : (l : List ℕ) (code : ℕ) → length l ≤ 1 → in_ranges l code ≡ false
unfolding in_ranges
short [] code h = refl
short (a ∷ []) code h = refl
short (a ∷ (b ∷ l)) code h = absurd (omega arith)

module _ {table : List ℕ} {code i : ℕ} (r : Ranging table code i) where
  pub ranging_ends : length table ≤ i + 1 → false ≡ in_ranges table code
  ranging_ends h = sym (short (drop i table) code (rw length-drop (omega arith))) ∙ r.decides

  module _ (h : i + 1 < length table) where
    two : drop i table ≡ get_or table i 0 ∷ (get_or table (i + 1) 0 ∷ drop (i + 2) table)
    two = rw (drop-cons table i 0 (omega arith), ← add-one i, drop-cons table (i + 1) 0 h, add-one i, add-two i)

    order : rising_from r.low (get_or table i 0 ∷ (get_or table (i + 1) 0 ∷ drop (i + 2) table)) ≡ true
    order = rw two at r.ordered

    rest : rising_from (get_or table i 0) (get_or table (i + 1) 0 ∷ drop (i + 2) table) ≡ true
    unfolding rising_from
    rest = both_right (leb r.low (get_or table i 0)) (rising_from (get_or table i 0) (get_or table (i + 1) 0 ∷ drop (i + 2) table)) order

    again : rising_from (get_or table i 0) (get_or table i 0 ∷ (get_or table (i + 1) 0 ∷ drop (i + 2) table)) ≡ true
    unfolding rising_from
    again = rw (le-leb (get_or table i 0) (get_or table i 0) (omega arith)) rest

    pub ranging_below : code < get_or table i 0 → false ≡ in_ranges table code
    ranging_below b = sym (stops (get_or table i 0) (get_or table i 0 ∷ (get_or table (i + 1) 0 ∷ drop (i + 2) table)) code again b) ∙ (rw two at r.decides)

    pub ranging_inside : get_or table i 0 ≤ code → code ≤ get_or table (i + 1) 0 → true ≡ in_ranges table code
    unfolding in_ranges
    ranging_inside l u = rw (two, within_yes (get_or table i 0) (get_or table (i + 1) 0) code l u) at r.decides

    pub ranging_more : get_or table i 0 ≤ code → get_or table (i + 1) 0 < code → Ranging table code (i + 2)
    unfolding in_ranges rising_from
    ranging_more l u = record {
      inside = omega arith;
      low = get_or table (i + 1) 0;
      ordered = both_right (leb (get_or table i 0) (get_or table (i + 1) 0)) (rising_from (get_or table (i + 1) 0) (drop (i + 2) table)) rest;
      decides = rw (two, within_high (get_or table i 0) (get_or table (i + 1) 0) code u) at r.decides;
    }

pub ruleset ranging = (ranging_starts, ranging_ends, ranging_below, ranging_inside, ranging_more, rules)
