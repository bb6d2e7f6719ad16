-- Methods. Assumes nothing.
use Rattle.std.specs.Prelude.{Option, Some, None}
use mathlib.Core.Path.{◌≡◌, refl, sym, ◌∙◌, ap}
use mathlib.Core.Bool.{Bool, false}
use mathlib.Core.List.{List}
use Prim.Native.Nat.{ℕ, ◌+◌, ◌-◌, ◌^◌, ◌≤◌, ◌<◌}
use native.Mathlib.Omega.{arith}
use lib.ListN.{length, drop, length-drop}
use lib.Seq.{drop-drop}
use mir.Val.{Fits}
use mir.Syntax.{w64}
use borrow.Author.Rules.{rules}
use Rattle.ground.specs.Put.{between}
use Rattle.ground.proofs.Parts.{take_rest}
use Rattle.text_places.proofs.PlaceLaws.{first_inside}
use Rattle.text_places.specs.declared.spans.Span.{Span}
use Rattle.text_white.specs.Trim.{trim_both, starts_white, first_white}
use Rattle.number.specs.Ranges.{leading_range, leading_taken, trailing_taken}
use Rattle.number.proofs.Ranging.{leading_rest}
use Rattle.line_parts.specs.declared.signature.Qualified.{Qualified}
use Rattle.line_parts.specs.declared.signature.Qualified.TheVariants.{Owned, Plain}
use Rattle.line_parts.specs.declared.method.Method.{Method}
use Rattle.text_places.specs.Spans.{span, shift, part_of, Lies, largest}
use Rattle.line_parts.specs.Signatures.{NameIn, method_signature}
use Rattle.line_parts.specs.Methods.{shift_name, shift_method, MethodIn, settled_of, with_signature, type_at, method_from, method_after, method_of, from_to}
use Rattle.line_parts.specs.Signatures.{signature_with}
use Rattle.text_white.proofs.TrimLaws.{trim_inside, trim_order, trimmed_order, trimmed_inside}
use Rattle.line_parts.proofs.Lying.{part_length, trim_lies, signature_lies, shift_lies, shift_name_lies}
use Rattle.number.specs.declared.range.LeadingRange.{LeadingRange}
use Rattle.number.specs.declared.range.TrailingRange.{TrailingRange}
use Rattle.line_parts.specs.declared.method.LineRange.{LineRange}
use Rattle.line_parts.specs.declared.signature.Signature.{Signature}

-- Names.
module _ (by : ℕ) (q : Qualified) (n : NameIn (shift_name by q) largest) where
  module _ {o a : Span} (e : q ≡ Owned o a) where
    both : Lies (shift by o) largest × Lies (shift by a) largest
    both = rw e at n

    pub owner_lies : Lies (shift by o) largest
    owner_lies = both.0

    pub owned_lies : Lies (shift by a) largest
    owned_lies = both.1

    pub owned_shift : {o₁ a₁ : Span} → o₁ ≡ shift by o → a₁ ≡ shift by a → Owned o₁ a₁ ≡ shift_name by q
    owned_shift {o₁} f g = ap (Owned o₁) g ∙ ap (λ x. Owned x (shift by a)) f ∙ sym (ap (shift_name by) e)

  module _ {a : Span} (e : q ≡ Plain a) where
    pub plain_lies : Lies (shift by a) largest
    plain_lies = rw e at n

    pub plain_shift : {a₁ : Span} → a₁ ≡ shift by a → Plain a₁ ≡ shift_name by q
    plain_shift f = ap Plain f ∙ sym (ap (shift_name by) e)

pub ruleset shifting = (owner_lies, owned_lies, owned_shift, plain_lies, plain_shift, rules)

-- Ranges.
module _ (returned : Span) (named : Qualified) (arguments : Span) (raw : Option LineRange) (lines : Option TrailingRange) where
  pub settled_taken : {x : TrailingRange} → lines ≡ Some x →
      ◌≡◌ {A = Method} (record { returned = returned; named = named; arguments = arguments; raw = raw; display = Some (from_to x.start x.«end»); short = x.second_unread }) (settled_of returned named arguments raw lines)
  settled_taken e = sym (ap (settled_of returned named arguments raw) e)

  pub settled_raw : lines ≡ None →
      ◌≡◌ {A = Method} (record { returned = returned; named = named; arguments = arguments; raw = raw; display = raw; short = false }) (settled_of returned named arguments raw lines)
  settled_raw e = sym (ap (settled_of returned named arguments raw) e)

pub ruleset settling = (settled_taken, settled_raw, rules)

-- From the return type on.
module _ (left : List ℕ) (rest : ℕ) (h : rest ≤ length left) {p : Option ℕ} (e : p ≡ first_white (between left rest (length left))) where
  white_is : p ≡ first_white (drop rest left)
  white_is = rw (take_rest left rest) at e

  pub method_no_white : (raw : Option LineRange) → p ≡ None → None ≡ method_from left rest raw
  method_no_white raw g = sym (ap (type_at left rest raw) (sym white_is ∙ g))

  module _ {white : ℕ} (g : p ≡ Some white) where
    reach : rest + white < length left
    reach = let i = first_inside starts_white (drop rest left) (sym white_is ∙ g) in omega (arith, length-drop rest left)

    pub base_fits : length left < 2 ^ 64 → Fits w64 (rest + white)
    base_fits b = let r = reach in omega arith

    pub base_inside : rest + white ≤ length left
    base_inside = let r = reach in omega arith

    module _ {part : Span} (f : part ≡ trim_both (between left (rest + white) (length left))) where
      part_is : part ≡ trim_both (drop (rest + white) left)
      part_is = rw (take_rest left (rest + white)) at f

      pub end_inside : rest + white + part.«end» ≤ length left
      end_inside =
          let a = trimmed_inside (drop (rest + white) left) part_is in
          let b = length-drop (rest + white) left in
          let r = reach in
          omega arith

      order : part.start ≤ part.«end»
      order = trimmed_order (drop (rest + white) left) part_is

      pub start_fits : length left < 2 ^ 64 → Fits w64 (rest + white + part.start)
      start_fits b = let w = end_inside in let o = order in omega arith

      pub end_fits : length left < 2 ^ 64 → Fits w64 (rest + white + part.«end»)
      end_fits b = let w = end_inside in omega arith

      pub start_before : rest + white + part.start ≤ rest + white + part.«end»
      start_before = let o = order in omega arith

      module _ {t : Option Signature} (s : t ≡ method_signature (between left (rest + white + part.start) (rest + white + part.«end»))) where
        text_is : between left (rest + white + part.start) (rest + white + part.«end») ≡ part_of (drop (rest + white) left) part
        text_is = let z : rest + white + part.«end» - (rest + white + part.start) ≡ part.«end» - part.start = omega arith in rw (z, drop-drop part.start (rest + white) left)

        signature_is : t ≡ method_signature (part_of (drop (rest + white) left) part)
        signature_is = s ∙ ap method_signature text_is

        whole : (raw : Option LineRange) → method_from left rest raw ≡ with_signature (span rest (rest + white)) (rest + white + part.start) raw t
        whole raw =
            ap (type_at left rest raw) (sym white_is ∙ g)
            ∙ ap (λ x. with_signature (span rest (rest + white)) (rest + white + x.start) raw (method_signature (part_of (drop (rest + white) left) x))) (sym part_is)
            ∙ ap (with_signature (span rest (rest + white)) (rest + white + part.start) raw) (sym signature_is)

        pub method_no_signature : (raw : Option LineRange) → t ≡ None → None ≡ method_from left rest raw
        method_no_signature raw k = sym (whole raw ∙ ap (with_signature (span rest (rest + white)) (rest + white + part.start) raw) k)

        module _ {y : Signature} (k : t ≡ Some y) where
          size : length (part_of (drop (rest + white) left) part) ≡ part.«end» - part.start
          size = part_length (drop (rest + white) left) part (rw part_is (trim_lies (drop (rest + white) left)))

          lie : NameIn y.named (length (part_of (drop (rest + white) left) part)) × Lies y.arguments (length (part_of (drop (rest + white) left) part))
          lie = signature_lies (part_of (drop (rest + white) left) part) (sym signature_is ∙ k)

          pub method_name_lies : length left < 2 ^ 64 → NameIn (shift_name (rest + white + part.start) y.named) largest
          method_name_lies b =
              let z = size in let w = end_inside in let o = order in
              shift_name_lies (rest + white + part.start) y.named (length (part_of (drop (rest + white) left) part)) largest (omega arith) lie.0

          pub method_arguments_lie : length left < 2 ^ 64 → Lies (shift (rest + white + part.start) y.arguments) largest
          method_arguments_lie b =
              let z = size in let w = end_inside in let o = order in
              shift_lies (rest + white + part.start) y.arguments (length (part_of (drop (rest + white) left) part)) largest (omega arith) lie.1

          pub method_read : (raw : Option LineRange) {n : Qualified} {a : Span} {m : Method} → n ≡ shift_name (rest + white + part.start) y.named → a ≡ shift (rest + white + part.start) y.arguments →
              m ≡ settled_of (span rest (rest + white)) n a raw y.lines → Some m ≡ method_from left rest raw
          method_read raw {n} {a} c d j =
              ap Some
              (j ∙ ap (λ x. settled_of (span rest (rest + white)) x a raw y.lines) c
              ∙ ap (λ x. settled_of (span rest (rest + white)) (shift_name (rest + white + part.start) y.named) x raw y.lines) d)
              ∙ sym (whole raw ∙ ap (with_signature (span rest (rest + white)) (rest + white + part.start) raw) k)

pub ruleset typing =
    (method_no_white, base_fits, base_inside, start_fits, end_fits, method_no_signature, method_name_lies, method_arguments_lie, method_read, rules)

-- where the signature stands; apart from the others, beside which `search` breaks off
pub ruleset signature_part = (start_before, end_inside)

-- The raw range.
module _ (left : List ℕ) {t : Option LeadingRange} (e : t ≡ leading_range left) where
  pub method_ranged : {x : LeadingRange} → t ≡ Some x → {r : Option Method} → r ≡ method_from left x.rest (Some (from_to x.start x.«end»)) → r ≡ method_of left
  method_ranged g f = f ∙ sym (ap (method_after left) (sym e ∙ g))

  pub method_rest : {x : LeadingRange} → t ≡ Some x → x.rest ≤ length left
  method_rest g = leading_rest left (sym e ∙ g)

  pub method_unranged : t ≡ None → {r : Option Method} → r ≡ method_from left 0 None → r ≡ method_of left
  method_unranged g f = f ∙ sym (ap (method_after left) (sym e ∙ g))

pub ruleset ranging = (method_ranged, method_rest, method_unranged, rules)

-- A method in what starts at a place.
module _ (by : ℕ) (m : Method) (l : MethodIn (shift_method by m) largest) where
  pub returned_lies : Lies (shift by m.returned) largest
  returned_lies = l.0

  pub named_lies : NameIn (shift_name by m.named) largest
  named_lies = l.1

  pub arguments_lie : Lies (shift by m.arguments) largest
  arguments_lie = l.2

pub method_shifts : (by : ℕ) (m : Method) {r : Span} {n : Qualified} {a : Span} → r ≡ shift by m.returned → n ≡ shift_name by m.named → a ≡ shift by m.arguments →
    ◌≡◌ {A = Method} (record { returned = r; named = n; arguments = a; raw = m.raw; display = m.display; short = m.short }) (shift_method by m)
method_shifts by m e f g = cc

pub ruleset method_shifting = (returned_lies, named_lies, arguments_lie, method_shifts, rules)

-- The parts of a method lie in its text.
settled_lies : (n : ℕ) (returned : Span) (named : Qualified) (arguments : Span) (raw : Option LineRange) (lines : Option TrailingRange) → Lies returned n → NameIn named n → Lies arguments n →
    MethodIn (settled_of returned named arguments raw lines) n
settled_lies n returned named arguments raw (Some r) k l m = (k, l, m)
settled_lies n returned named arguments raw None k l m = (k, l, m)

method_as : (n : ℕ) {a b : Method} → a ≡ b → MethodIn a n → MethodIn b n
method_as n e l = rw e at l

same_parts : {a b : Method} → Some a ≡ Some b → a ≡ b
same_parts e = cc

from_lies : (left : List ℕ) (rest : ℕ) (raw : Option LineRange) {m : Method} → rest ≤ length left → method_from left rest raw ≡ Some m → MethodIn m (length left)
from_lies left rest raw {m} h e = by_white (first_white (drop rest left)) refl e
  where
    by_signature : (white : ℕ) → rest + white < length left → (t : Option Signature) → method_signature (part_of (drop (rest + white) left) (trim_both (drop (rest + white) left))) ≡ t →
        with_signature (span rest (rest + white)) (rest + white + (trim_both (drop (rest + white) left)).start) raw t ≡ Some m → MethodIn m (length left)
    by_signature white i None q f = absurd (let z : ◌≡◌ {A = ℕ} 0 1 = cc in omega arith)
    by_signature white i (Some r) q f =
        let after : List ℕ = drop (rest + white) left in
        let part : Span = trim_both after in
        let in_part = signature_lies (part_of after part) q in
        let size = part_length after part (trim_lies after) in
        let ends = trim_inside after in
        let order = trim_order after in
        let room = length-drop (rest + white) left in
        let by : ℕ = rest + white + part.start in
        let fits : by + length (part_of after part) ≤ length left = omega arith in
        method_as (length left) (same_parts f)
        (settled_lies (length left) (span rest (rest + white)) (shift_name by r.named) (shift by r.arguments) raw r.lines (record { order = omega arith; within = omega arith })
        (shift_name_lies by r.named (length (part_of after part)) (length left) fits in_part.0) (shift_lies by r.arguments (length (part_of after part)) (length left) fits in_part.1))

    by_white : (p : Option ℕ) → first_white (drop rest left) ≡ p → type_at left rest raw p ≡ Some m → MethodIn m (length left)
    by_white None q f = absurd (let z : ◌≡◌ {A = ℕ} 0 1 = cc in omega arith)
    by_white (Some white) q f =
        let i = first_inside starts_white (drop rest left) q in
        by_signature white (omega (arith, length-drop rest left)) (method_signature (part_of (drop (rest + white) left) (trim_both (drop (rest + white) left)))) refl f

pub method_lies : (left : List ℕ) {m : Method} → method_of left ≡ Some m → MethodIn m (length left)
method_lies left {m} e = go (leading_range left) refl e
  where
    go : (t : Option LeadingRange) → leading_range left ≡ t → method_after left t ≡ Some m → MethodIn m (length left)
    go (Some r) q f = from_lies left r.rest (Some (from_to r.start r.«end»)) (leading_rest left q) f
    go None q f = from_lies left 0 None (omega arith) f

pub shift_method_lies : (by : ℕ) (m : Method) (k n : ℕ) → by + k ≤ n → MethodIn m k → MethodIn (shift_method by m) n
shift_method_lies by m k n h l = (shift_lies by m.returned k n h l.0, shift_name_lies by m.named k n h l.1, shift_lies by m.arguments k n h l.2)
