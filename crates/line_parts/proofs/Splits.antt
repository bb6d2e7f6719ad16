-- The arrow of a line, and class lines. Assumes nothing.
use Rattle.std.specs.Prelude.{Option, Some, None}
use mathlib.Core.Path.{◌≡◌, refl, sym, ◌∙◌, ap}
use mathlib.Core.List.{List, [], ◌∷◌}
use Prim.Native.Nat.{ℕ, ◌+◌, ◌-◌, ◌^◌, ◌≤◌, ◌<◌}
use native.Mathlib.Omega.{arith}
use lib.ListN.{length, get_or, take, drop, length-take, length-drop}
use mir.Val.{Fits}
use mir.Syntax.{w64}
use borrow.Author.Tests.{eq-eqb, ne_eqb}
use borrow.Author.Rules.{rules}
use Rattle.ground.specs.Put.{between}
use Rattle.ground.proofs.Parts.{take_rest}
use Rattle.text_places.specs.Places.{first_where, starts_pair}
use Rattle.text_places.proofs.Holds.{pair_inside}
use Rattle.text_places.specs.declared.spans.Span.{Span}
use Rattle.text_white.specs.Trim.{trim_both}
use Rattle.text_white.proofs.TrimLaws.{trimmed_order, trimmed_inside}
use Rattle.text_places.specs.Spans.{shift, Lies, largest}
use Rattle.line_parts.specs.Arrows.{sides_of, split_at, arrow_of, class_sides, two_sides}
use Rattle.line_parts.specs.declared.arrow.Sides.{Sides}

-- Both sides.
module _ (l : Span) (n : ℕ) (r : Span) where
  left_empty : l.start ≡ l.«end» → sides_of l n r ≡ None
  left_empty z = rw (eq-eqb l.start l.«end» z)

  module _ (f : l.start ≡ l.«end» → ⊥) where
    right_empty : r.start ≡ r.«end» → sides_of l n r ≡ None
    right_empty z = rw (ne_eqb l.start l.«end» f, eq-eqb r.start r.«end» z)

    none_empty : (r.start ≡ r.«end» → ⊥) → sides_of l n r ≡ Some (two_sides l (shift n r))
    none_empty z = rw (ne_eqb l.start l.«end» f, ne_eqb r.start r.«end» z)

-- The split.
module _ (s : List ℕ) {p : Option ℕ} (e : p ≡ first_where (starts_pair 0x2D 0x3E) s) where
  pub arrow_none : p ≡ None → None ≡ arrow_of s
  arrow_none g = sym (rw (sym e ∙ g))

  module _ {i : ℕ} (g : p ≡ Some i) where
    pub arrow_after : i + 2 ≤ length s
    arrow_after = pair_inside 0x2D 0x3E s (sym e ∙ g)

    pub arrow_inside : i ≤ length s
    arrow_inside = let r = arrow_after in omega arith

    pub arrow_prefix : i ≡ length (take i s)
    arrow_prefix = let r = arrow_after in omega (arith, length-take i s)

    pub arrow_fits : length s < 2 ^ 64 → Fits w64 (i + 2)
    arrow_fits b = let r = arrow_after in omega arith

    at : arrow_of s ≡ sides_of (trim_both (take i s)) (i + 2) (trim_both (drop (i + 2) s))
    at = ap (split_at s) (sym e ∙ g)

    module _ {l : Span} (f : l ≡ trim_both (take i s)) where
      pub arrow_left_empty : l.start ≡ l.«end» → None ≡ arrow_of s
      arrow_left_empty z = sym (at ∙ ap (λ x. sides_of x (i + 2) (trim_both (drop (i + 2) s))) (sym f) ∙ left_empty l (i + 2) (trim_both (drop (i + 2) s)) z)

      module _ (n : l.start ≡ l.«end» → ⊥) {r : Span} (h : r ≡ trim_both (between s (i + 2) (length s))) where
        right : r ≡ trim_both (drop (i + 2) s)
        right = rw (take_rest s (i + 2)) at h

        both_sides : arrow_of s ≡ sides_of l (i + 2) r
        both_sides = at ∙ ap (λ x. sides_of x (i + 2) (trim_both (drop (i + 2) s))) (sym f) ∙ ap (sides_of l (i + 2)) (sym right)

        pub arrow_right_empty : r.start ≡ r.«end» → None ≡ arrow_of s
        arrow_right_empty z = sym (both_sides ∙ right_empty l (i + 2) r n z)

        pub arrow_shift : length s < 2 ^ 64 → Lies (shift (i + 2) r) largest
        arrow_shift b =
            let a = trimmed_inside (drop (i + 2) s) right in
            let o = trimmed_order (drop (i + 2) s) right in
            let d = length-drop (i + 2) s in
            let c = arrow_after in
            record { order = omega arith; within = omega arith }

        pub arrow_sides : (r.start ≡ r.«end» → ⊥) → {q : Span} → q ≡ shift (i + 2) r → Some (two_sides l q) ≡ arrow_of s
        arrow_sides z k = ap (λ x. Some (two_sides l x)) k ∙ sym (both_sides ∙ none_empty l (i + 2) r n z)

pub ruleset splitting =
    (arrow_none, arrow_inside, arrow_prefix, arrow_after, arrow_fits, arrow_left_empty, arrow_right_empty, arrow_shift, arrow_sides, rules)

-- Class lines.
module _ (s : List ℕ) where
  pub class_empty : length s ≡ 0 → None ≡ class_sides s
  class_empty z = sym (rw (none s z))
    where
      none : (l : List ℕ) → length l ≡ 0 → l ≡ []
      none [] h = refl
      none (x ∷ l) h = absurd (omega arith)

  module _ (n : length s ≡ 0 → ⊥) where
    pub class_last : length s - 1 < length s
    class_last = omega arith

    pub class_prefix : length s - 1 ≡ length (take (length s - 1) s)
    class_prefix = omega (arith, length-take (length s - 1) s)

    pub class_no_colon : (get_or s (length s - 1) 0 ≡ 0x3A → ⊥) → None ≡ class_sides s
    class_no_colon f = sym (rw (ne_eqb (get_or s (length s - 1) 0) 0x3A f))

    pub class_colon : get_or s (length s - 1) 0 ≡ 0x3A → {r : Option Sides} → r ≡ arrow_of (take (length s - 1) s) → r ≡ class_sides s
    class_colon f g = g ∙ sym (rw (eq-eqb (get_or s (length s - 1) 0) 0x3A f))

pub ruleset class_sides_lem = (class_empty, class_last, class_prefix, class_no_colon, class_colon, rules)
