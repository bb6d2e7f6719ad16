-- The two range readers. Assumes nothing.
use Rattle.std.specs.Prelude.{Option, Some, None}
use mathlib.Core.Path.{◌≡◌, refl, sym, ◌∙◌}
use mathlib.Core.Bool.{true, false}
use mathlib.Core.List.{List, [], ◌∷◌}
use Prim.Native.Nat.{ℕ, ◌+◌, ◌-◌, ◌^◌, ◌≤◌, ◌<◌}
use native.Mathlib.Omega.{arith}
use lib.ListN.{length, get_or, take, drop, length-drop}
use lib.Seq.{get_or-drop}
use mir.Val.{Fits}
use mir.Syntax.{w64}
use borrow.Author.Tests.{eq-eqb, ne_eqb}
use borrow.Author.Rules.{rules}
use Rattle.ground.specs.Put.{between}
use Rattle.ground.proofs.Parts.{take_rest, prefix_size}
use Rattle.text_places.specs.Places.{starts}
use Rattle.text_places.proofs.PlaceLaws.{first_inside}
use Rattle.text_places.proofs.Holds.{first_is}
use Rattle.number.specs.Numbers.{number_of}
use Rattle.number.specs.Ranges.{first_colon, both_read, cut_twice, cut_once, leading_range, to_colon, one_number, two_numbers, after_colon, trailing_range, leading_taken, trailing_taken}
use Rattle.number.specs.declared.range.TrailingRange.{TrailingRange}
use Rattle.number.specs.declared.range.LeadingRange.{LeadingRange}
use Rattle.ground.proofs.Answered.{none_on}

-- The range before the method.
module _ (s : List ℕ) {p : Option ℕ} (e : p ≡ first_colon s) where
  pub lead_no_colon : p ≡ None → None ≡ leading_range s
  lead_no_colon g = sym (rw (sym e ∙ g))

  module _ {first : ℕ} (g : p ≡ Some first) where
    pub colon_inside : first < length s
    colon_inside = first_inside (starts 0x3A) s (sym e ∙ g)

    pub lead_after_fits : length s < 2 ^ 64 → Fits w64 (first + 1)
    lead_after_fits b = let i = colon_inside in omega arith

    pub lead_after : first + 1 ≤ length s
    lead_after = let i = colon_inside in omega arith

    module _ {q : Option ℕ} (f : q ≡ first_colon (between s (first + 1) (length s))) where
      second : q ≡ first_colon (drop (first + 1) s)
      second = rw (take_rest s (first + 1)) at f

      pub lead_one_colon : q ≡ None → None ≡ leading_range s
      lead_one_colon h = sym (rw (sym e ∙ g, sym second ∙ h))

      module _ {width : ℕ} (h : q ≡ Some width) where
        reaches : first + 1 + width < length s
        reaches = let i = first_inside (starts 0x3A) (drop (first + 1) s) (sym second ∙ h) in omega (arith, length-drop (first + 1) s)

        pub lead_reaches : first + 1 + width ≤ length s
        lead_reaches = let i = reaches in omega arith

        pub lead_fits : length s < 2 ^ 64 → Fits w64 (first + 1 + width)
        lead_fits b = let i = reaches in omega arith

        pub lead_rest_fits : length s < 2 ^ 64 → Fits w64 (first + 1 + width + 1)
        lead_rest_fits b = let i = reaches in omega arith

        whole : leading_range s ≡ both_read (number_of (take first s)) (number_of (take width (drop (first + 1) s))) (first + 1 + width + 1)
        whole = rw (sym e ∙ g, sym second ∙ h)

        module _ {n : Option ℕ} (a : n ≡ number_of (take first s)) where
          pub lead_first_unread : n ≡ None → None ≡ leading_range s
          lead_first_unread y = sym (whole ∙ rw (sym a ∙ y))

          module _ {start : ℕ} (y : n ≡ Some start) {m : Option ℕ} (b : m ≡ number_of (between s (first + 1) (first + 1 + width))) where
            other : m ≡ number_of (take width (drop (first + 1) s))
            other = let z : first + 1 + width - (first + 1) ≡ width = omega arith in rw z at b

            pub lead_second_unread : m ≡ None → None ≡ leading_range s
            lead_second_unread w = sym (whole ∙ rw (sym a ∙ y, sym other ∙ w))

            pub lead_taken : {«end» : ℕ} → m ≡ Some «end» → Some (leading_taken start «end» (first + 1 + width + 1)) ≡ leading_range s
            lead_taken w = sym (whole ∙ rw (sym a ∙ y, sym other ∙ w))

pub ruleset leading =
    (none_on, lead_no_colon, colon_inside, prefix_size, lead_after_fits, lead_after, lead_one_colon, lead_reaches, lead_fits, lead_rest_fits, lead_first_unread, lead_second_unread, lead_taken, rules)

-- What is left starts right behind a colon.
pub record Behind (s : List ℕ) (rest : ℕ) : Type 0 where
  pub colon : ℕ
  pub inside : colon < length s
  pub stands : get_or s colon 0 ≡ 0x3A
  pub next : rest ≡ colon + 1

pub leading_behind : (s : List ℕ) {w : LeadingRange} → leading_range s ≡ Some w → Behind s w.rest
leading_behind s {w} e = once (first_colon s) refl e
  where
    read : (n m : Option ℕ) (r : ℕ) → both_read n m r ≡ Some w → r ≡ w.rest
    read (Some x) (Some y) r f = cc
    read (Some x) None r f = absurd (let z : ◌≡◌ {A = ℕ} 0 1 = cc in omega arith)
    read None m r f = absurd (let z : ◌≡◌ {A = ℕ} 0 1 = cc in omega arith)

    twice : (i : ℕ) (p : Option ℕ) → first_colon (drop (i + 1) s) ≡ p → cut_twice s i p (drop (i + 1) s) ≡ Some w → Behind s w.rest
    twice i None q f = absurd (let z : ◌≡◌ {A = ℕ} 0 1 = cc in omega arith)
    twice i (Some j) q f =
        let second = first_inside (starts 0x3A) (drop (i + 1) s) q in
        let is = read (number_of (take i s)) (number_of (take j (drop (i + 1) s))) (i + 1 + j + 1) f in
        record {
          colon = i + 1 + j;
          inside = omega (arith, length-drop (i + 1) s);
          stands = sym (get_or-drop (i + 1) s j 0) ∙ first_is 0x3A (drop (i + 1) s) q;
          next = sym is;
        }

    once : (p : Option ℕ) → first_colon s ≡ p → cut_once s p ≡ Some w → Behind s w.rest
    once None q f = absurd (let z : ◌≡◌ {A = ℕ} 0 1 = cc in omega arith)
    once (Some i) q f = twice i (first_colon (drop (i + 1) s)) refl f

pub leading_rest : (s : List ℕ) {x : LeadingRange} → leading_range s ≡ Some x → x.rest ≤ length s
leading_rest s e = let c = leading_behind s e in let i = c.inside in let n = c.next in omega arith

-- The range after the `)`.
module _ (s : List ℕ) {p : Option ℕ} (e : p ≡ first_colon s) where
  pub colon_none : p ≡ None → s ≡ to_colon s
  colon_none g = sym (rw (sym e ∙ g))

  module _ {i : ℕ} (g : p ≡ Some i) where
    pub colon_cut : take i s ≡ to_colon s
    colon_cut = sym (rw (sym e ∙ g))

pub ruleset to_colon_lem = (colon_none, colon_cut, colon_inside, prefix_size, rules)

module _ {n : Option ℕ} (t : List ℕ) (a : n ≡ number_of t) where
  pub one_unread : n ≡ None → None ≡ one_number (number_of t)
  one_unread y = sym (rw (sym a ∙ y))

  pub one_read : {start : ℕ} → n ≡ Some start → Some (trailing_taken start start false) ≡ one_number (number_of t)
  one_read y = sym (rw (sym a ∙ y))

pub ruleset one_number_lem = (one_unread, one_read, rules)

module _ (s : List ℕ) (i : ℕ) {n : Option ℕ} (a : n ≡ number_of (take i s)) where
  pub two_unread : n ≡ None → None ≡ two_numbers (number_of (take i s)) (number_of (to_colon (drop (i + 1) s)))
  two_unread y = sym (rw (sym a ∙ y))

  module _ {start : ℕ} (y : n ≡ Some start) {u : List ℕ} (c : u ≡ to_colon (between s (i + 1) (length s))) {m : Option ℕ} (b : m ≡ number_of u) where
    later : number_of (to_colon (drop (i + 1) s)) ≡ m
    later = sym (b ∙ rw (c, take_rest s (i + 1)))

    pub two_short : m ≡ None → Some (trailing_taken start start true) ≡ two_numbers (number_of (take i s)) (number_of (to_colon (drop (i + 1) s)))
    two_short w = sym (rw (sym a ∙ y, later ∙ w))

    pub two_read : {«end» : ℕ} → m ≡ Some «end» → Some (trailing_taken start «end» false) ≡ two_numbers (number_of (take i s)) (number_of (to_colon (drop (i + 1) s)))
    two_read w = sym (rw (sym a ∙ y, later ∙ w))

pub ruleset two_numbers_lem = (prefix_size, two_unread, two_short, two_read, rules)

pub trail_empty : (s : List ℕ) → length s ≡ 0 → None ≡ trailing_range s
trail_empty [] h = refl
trail_empty (x ∷ s) h = absurd (omega arith)

pub trail_other : (s : List ℕ) → (get_or s 0 0 ≡ 0x3A → ⊥) → None ≡ trailing_range s
trail_other [] e = refl
trail_other (x ∷ s) e = sym (rw (ne_eqb x 0x3A e))

colon_first : (s : List ℕ) → (length s ≡ 0 → ⊥) → get_or s 0 0 ≡ 0x3A → trailing_range s ≡ after_colon (drop 1 s) (first_colon (drop 1 s))
colon_first [] h e = absurd (h refl)
colon_first (x ∷ s) h e = rw (eq-eqb x 0x3A e)

module _ (s : List ℕ) (h : length s ≡ 0 → ⊥) (c : get_or s 0 0 ≡ 0x3A) {p : Option ℕ} (e : p ≡ first_colon (between s 1 (length s))) where
  numbers : p ≡ first_colon (drop 1 s)
  numbers = rw (take_rest s 1) at e

  pub trail_one : p ≡ None → {r : Option TrailingRange} → r ≡ one_number (number_of (between s 1 (length s))) → r ≡ trailing_range s
  trail_one g a = a ∙ sym (colon_first s h c ∙ rw (sym numbers ∙ g, take_rest s 1))

  module _ {i : ℕ} (g : p ≡ Some i) where
    pub trail_inside : i < length (between s 1 (length s))
    trail_inside = first_inside (starts 0x3A) (take (length s - 1) (drop 1 s)) (sym e ∙ g)

    pub trail_two :
        {r : Option TrailingRange} →
        r ≡ two_numbers (number_of (take i (between s 1 (length s)))) (number_of (to_colon (drop (i + 1) (between s 1 (length s))))) →
        r ≡ trailing_range s
    trail_two a = a ∙ sym (colon_first s h c ∙ rw (sym numbers ∙ g, take_rest s 1))

pub ruleset trailing = (trail_empty, trail_other, trail_one, trail_inside, trail_two, rules)
