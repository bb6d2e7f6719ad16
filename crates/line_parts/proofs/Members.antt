-- Fields, and a method's signature. Assumes nothing.
use Rattle.std.specs.Prelude.{Option, Some, None}
use mathlib.Core.Path.{◌≡◌, sym, ◌∙◌, ap}
use mathlib.Core.List.{List}
use Prim.Native.Nat.{ℕ, ◌+◌, ◌-◌, ◌^◌, ◌≤◌, ◌<◌}
use native.Mathlib.Omega.{arith}
use lib.ListN.{length, take, drop, length-take, length-drop}
use mir.Val.{Fits}
use mir.Syntax.{w64}
use borrow.Author.Tests.{lt-ltb, le-ltb}
use borrow.Author.Rules.{rules}
use Rattle.ground.specs.Put.{between}
use Rattle.ground.proofs.Parts.{take_rest}
use Rattle.text_places.specs.Places.{first_where, last_where, starts}
use Rattle.text_places.proofs.PlaceLaws.{first_inside, last_inside}
use Rattle.text_places.proofs.InPart.{first_in_part}
use Rattle.text_places.specs.declared.spans.Span.{Span}
use Rattle.text_white.specs.Trim.{trim_both, starts_white, last_white}
use Rattle.number.specs.Ranges.{trailing_range}
use Rattle.line_parts.specs.declared.signature.Qualified.{Qualified}
use Rattle.line_parts.specs.declared.signature.Qualified.TheVariants.{Owned, Plain}
use Rattle.text_places.specs.Spans.{span, shift, part_of, Lies, largest}
use Rattle.line_parts.specs.Fields.{field_split, field_of, type_and_name}
use Rattle.line_parts.specs.Signatures.{qualified_at, qualified_of, lines_after, method_signature_at, method_signature}
use Rattle.line_parts.specs.Inner.Opening.{Opens}
use Rattle.text_white.proofs.TrimLaws.{trimmed_order, trimmed_inside}
use Rattle.number.specs.declared.range.TrailingRange.{TrailingRange}
use Rattle.line_parts.specs.Signatures.{signature_with}

-- Fields.
module _ (s : List ℕ) {p : Option ℕ} (e : p ≡ last_white s) where
  pub field_none : p ≡ None → None ≡ field_of s
  field_none g = sym (ap (field_split s) (sym e ∙ g))

  module _ {i : ℕ} (g : p ≡ Some i) where
    white : i < length s
    white = last_inside starts_white s (sym e ∙ g)

    pub field_inside : i ≤ length s
    field_inside = let h = white in omega arith

    pub field_prefix : i ≡ length (take i s)
    field_prefix = let h = white in omega (arith, length-take i s)

    module _ {l r : Span} (f : l ≡ trim_both (take i s)) (h : r ≡ trim_both (between s i (length s))) where
      name : r ≡ trim_both (drop i s)
      name = rw (take_rest s i) at h

      pub field_shift : length s < 2 ^ 64 → Lies (shift i r) largest
      field_shift b =
          let a = trimmed_inside (drop i s) name in
          let o = trimmed_order (drop i s) name in
          let d = length-drop i s in
          let c = white in
          record { order = omega arith; within = omega arith }

      pub field_read : {q : Span} → q ≡ shift i r → Some (type_and_name l q) ≡ field_of s
      field_read k = ap (λ x. Some (type_and_name l x)) (k ∙ ap (shift i) name) ∙ ap (λ x. Some (type_and_name x (shift i (trim_both (drop i s))))) f ∙ sym (ap (field_split s) (sym e ∙ g))

pub ruleset fielding = (field_none, field_inside, field_prefix, field_shift, field_read, rules)

-- Owner and name.
module _ (s : List ℕ) {p : Option ℕ} (e : p ≡ last_where (starts 0x2E) s) where
  pub name_plain : p ≡ None → Plain (span 0 (length s)) ≡ qualified_of s
  name_plain g = sym (ap (qualified_at s) (sym e ∙ g))

  module _ {dot : ℕ} (g : p ≡ Some dot) where
    pub name_fits : length s < 2 ^ 64 → Fits w64 (dot + 1)
    name_fits b = let h = last_inside (starts 0x2E) s (sym e ∙ g) in omega arith

    pub name_owned : Owned (span 0 dot) (span (dot + 1) (length s)) ≡ qualified_of s
    name_owned = sym (ap (qualified_at s) (sym e ∙ g))

pub ruleset naming = (name_plain, name_fits, name_owned, rules)

-- What follows the `)`.
module _ (s : List ℕ) {p : Span} (e : p ≡ trim_both s) where
  pub after_lines : {r : Option TrailingRange} → r ≡ trailing_range (between s p.start p.«end») → r ≡ lines_after s
  after_lines f = f ∙ ap (λ x. trailing_range (part_of s x)) e

pub ruleset lines_following = (trimmed_order, trimmed_inside, after_lines, rules)

-- Parentheses.
module _ (s : List ℕ) {p : Option ℕ} (e : p ≡ first_where (starts 0x28) s) where
  pub signature_no_open : p ≡ None → None ≡ method_signature s
  signature_no_open g = sym (ap (λ x. method_signature_at s x (last_where (starts 0x29) s)) (sym e ∙ g))

  module _ {opened : ℕ} (g : p ≡ Some opened) {q : Option ℕ} (f : q ≡ last_where (starts 0x29) s) where
    at : {x : Option ℕ} → q ≡ x → method_signature s ≡ method_signature_at s (Some opened) x
    at h = ap (λ x. method_signature_at s x (last_where (starts 0x29) s)) (sym e ∙ g) ∙ ap (method_signature_at s (Some opened)) (sym f ∙ h)

    pub signature_no_close : q ≡ None → None ≡ method_signature s
    signature_no_close h = sym (at h)

    module _ {close : ℕ} (h : q ≡ Some close) where
      opens : opened < length s
      opens = first_inside (starts 0x28) s (sym e ∙ g)

      closes : close < length s
      closes = last_inside (starts 0x29) s (sym f ∙ h)

      pub signature_crossed : close < opened → None ≡ method_signature s
      signature_crossed l = sym (at h ∙ rw (lt-ltb close opened l))

      module _ (l : opened ≤ close) where
        pub signature_name : opened ≤ length s
        signature_name = let o = opens in omega arith

        pub signature_prefix : opened ≡ length (take opened s)
        signature_prefix = let o = opens in omega (arith, length-take opened s)

        pub signature_rest : close + 1 ≤ length s
        signature_rest = let c = closes in omega arith

        pub signature_fits : length s < 2 ^ 64 → Fits w64 (close + 1)
        signature_fits b = let c = closes in omega arith

        pub signature_arguments : length s < 2 ^ 64 → Fits w64 (opened + 1)
        signature_arguments b = let c = opens in omega arith

        pub signature_read : {n : Qualified} {r : Option TrailingRange} → n ≡ qualified_of (take opened s) → r ≡ lines_after (between s (close + 1) (length s)) →
            Some (signature_with n (span (opened + 1) close) r) ≡ method_signature s
        signature_read {n} {r} a b =
            ap (λ x. Some (signature_with x (span (opened + 1) close) r)) a ∙ ap (λ x. Some (signature_with (qualified_of (take opened s)) (span (opened + 1) close) x)) (rw (take_rest s (close + 1)) at b)
            ∙ sym (at h ∙ rw (le-ltb close opened l))

pub ruleset signing =
    (signature_no_open, signature_no_close, signature_crossed, signature_name, signature_prefix, signature_rest, signature_fits, signature_arguments, signature_read, rules)

-- The first `(` of a part.
module _ (left : List ℕ) (i start «end» : ℕ) (o : Opens left i) (h : start ≤ «end») (j : start ≤ i) where
  pub part_opens : i < «end» → Some (i - start) ≡ first_where (starts 0x28) (between left start «end»)
  part_opens l = sym (rw (first_in_part 0x28 left o start «end» h j, lt-ltb i «end» l))

  pub part_opens_later : «end» ≤ i → None ≡ first_where (starts 0x28) (between left start «end»)
  part_opens_later l = sym (rw (first_in_part 0x28 left o start «end» h j, le-ltb i «end» l))

pub ruleset opening = (part_opens, part_opens_later, rules)
