-- Every part of a well-formed line is well formed: the sides of a class line and of a member line, a field's and a method's parts,
-- arguments, and the JSON of a comment. Assumes nothing.
use Rattle.std.specs.Prelude.{Option, Some, None}
use mathlib.Core.Path.{◌≡◌, refl, sym, ◌∙◌, ap}
use mathlib.Core.Bool.{Bool, true, false}
use mathlib.Core.List.{List, ◌∷◌}
use mathlib.Core.Logic.{inr}
use Prim.Native.Nat.{ℕ, ◌+◌, ◌-◌, ◌≤◌}
use native.Mathlib.Omega.{arith}
use lib.Dec.{eqb, ltb}
use lib.ListN.{length, get_or, take, drop, length-drop}
use lib.Seq.{drop-drop, take-length, length-take-le}
use borrow.Author.Tests.{eqb-true, ne_eqb}
use Rattle.ground.specs.Choice.{pick}
use Rattle.ground.proofs.Parts.{take_rest, cut_part}
use Rattle.text_places.specs.Places.{first_where, last_where, starts, starts_pair}
use Rattle.text_places.proofs.PlaceLaws.{first_inside, last_inside}
use Rattle.text_places.proofs.Holds.{first_is, last_is, pair_stands, pair_inside}
use Rattle.text_utf8.specs.Grammar.{Utf8Octets}
use Rattle.text_utf8.proofs.Boundaries.{octets_as, Texts, no_text, text, Fresh, fresh_as, octets_fresh, fresh_ascii, fresh_after, after_octets, take_octets, drop_octets, part_octets}
use Rattle.text_places.specs.declared.spans.Span.{Span}
use Rattle.text_white.specs.Trim.{trim_both, starts_white, first_white, last_white}
use Rattle.text_white.proofs.Cuts.{trim_octets, first_white_fresh, last_white_fresh, Splitting, split_texts}
use Rattle.number.specs.Ranges.{leading_range, leading_taken}
use Rattle.number.proofs.Ranging.{leading_behind}
use Rattle.line_parts.specs.declared.signature.Qualified.{Qualified}
use Rattle.line_parts.specs.declared.signature.Qualified.TheVariants.{Owned, Plain}
use Rattle.line_parts.specs.declared.method.Method.{Method}
use Rattle.text_places.specs.Spans.{span, shift, is_empty, part_of, Lies}
use Rattle.line_parts.specs.Signatures.{NameIn, qualified_at, qualified_of, lines_after, method_signature_at, method_signature, signature_with}
use Rattle.line_parts.specs.Arguments.{comma_parts, filled, arguments_of}
use Rattle.line_parts.specs.Arrows.{split_at, arrow_of, class_sides, two_sides}
use Rattle.line_parts.specs.Fields.{field_split, field_of, type_and_name}
use Rattle.line_parts.specs.Methods.{shift_name, shift_method, MethodIn, settled_of, with_signature, type_at, method_from, method_after, method_of, from_to}
use Rattle.line_parts.proofs.Lying.{trim_lies, lies_as, part_length, sides_are, arrow_lies, name_lies, signature_lies, shift_lies}
use Rattle.number.specs.declared.range.LeadingRange.{LeadingRange}
use Rattle.number.specs.declared.range.TrailingRange.{TrailingRange}
use Rattle.line_parts.specs.declared.method.LineRange.{LineRange}
use Rattle.line_parts.specs.declared.signature.Signature.{Signature}
use Rattle.line_parts.specs.declared.arrow.Sides.{Sides}
use Rattle.line_parts.specs.declared.field.Field.{Field}
use Rattle.ground.proofs.Answered.{some_part}

-- A text that stands in another from the place `by` on: its parts are parts of that one.
pub record Stands (s : List ℕ) (by : ℕ) (t : List ℕ) : Type 0 where
  pub is : take (length t) (drop by s) ≡ t

pub stands_part : {s : List ℕ} {by : ℕ} {t : List ℕ} → Stands s by t → (q : Span) → Lies q (length t) → part_of t q ≡ part_of s (shift by q)
stands_part {s} {by} {t} k q l = ap (λ x. part_of x q) (sym k.is) ∙ cut_part s by (length t) q.start q.«end» l.within

drop_stands : (s : List ℕ) (i : ℕ) → Stands s i (drop i s)
drop_stands s i = record { is = take-length (drop i s) }

pub part_stands : (s : List ℕ) (p : Span) → Lies p (length s) → Stands s p.start (part_of s p)
part_stands s p l = record { is = ap (λ n. take n (drop p.start s)) (part_length s p l) }

take_part : (s : List ℕ) (i : ℕ) → i ≤ length s → (q : Span) → Lies q (length (take i s)) → part_of (take i s) q ≡ part_of s q
take_part s i h q l =
    let a : 0 + q.start ≡ q.start = omega arith in
    let b : 0 + q.«end» ≡ q.«end» = omega arith in
    stands_part {s = s} {by = 0} (record { is = ap (λ n. take n s) (length-take-le i s h) }) q l ∙ rw (a, b)

-- The sides of an arrow.
pub arrow_octets : {s : List ℕ} → Utf8Octets s → {x : Sides} → arrow_of s ≡ Some x → Utf8Octets (part_of s x.left) × Utf8Octets (part_of s x.right)
arrow_octets {s} o {x} e = go (first_where (starts_pair 0x2D 0x3E) s) refl e
  where
    go : (p : Option ℕ) → first_where (starts_pair 0x2D 0x3E) s ≡ p → split_at s p ≡ Some x → Utf8Octets (part_of s x.left) × Utf8Octets (part_of s x.right)
    go None q f = absurd (let z : ◌≡◌ {A = ℕ} 0 1 = cc in omega arith)
    go (Some i) q f =
        let (a, b) = sides_are (trim_both (take i s)) (i + 2) (trim_both (drop (i + 2) s)) f in
        let room = pair_inside 0x2D 0x3E s q in
        let (dash, head) = pair_stands 0x2D 0x3E s q in
        let two : i + 1 + 1 ≡ i + 2 = omega arith in
        let left = take_octets o i (fresh_ascii s i (omega arith)) in
        let right = octets_as (ap (λ n. drop n s) two) (after_octets o (i + 1) (omega arith) (omega arith)) in (
          octets_as (take_part s i (omega arith) (trim_both (take i s)) (trim_lies (take i s)) ∙ ap (part_of s) a) (trim_octets left),
          octets_as (stands_part (drop_stands s (i + 2)) (trim_both (drop (i + 2) s)) (trim_lies (drop (i + 2) s)) ∙ ap (part_of s) b) (trim_octets right),
        )

pub class_octets : {s : List ℕ} → Utf8Octets s → {x : Sides} → class_sides s ≡ Some x → Utf8Octets (part_of s x.left) × Utf8Octets (part_of s x.right)
class_octets {s} o {x} e = go (eqb (get_or s (length s - 1) 0) 0x3A) refl e
  where
    go : (b : Bool) → eqb (get_or s (length s - 1) 0) 0x3A ≡ b → pick b (arrow_of (take (length s - 1) s)) None ≡ Some x →
        Utf8Octets (part_of s x.left) × Utf8Octets (part_of s x.right)
    go true q f =
        let colon = eqb-true (get_or s (length s - 1) 0) 0x3A q in
        let front = take_octets o (length s - 1) (fresh_ascii s (length s - 1) (omega arith)) in
        let (a, b) = arrow_octets front f in
        let (c, d) = arrow_lies (take (length s - 1) s) f in
        (octets_as (take_part s (length s - 1) (omega arith) x.left c) a, octets_as (take_part s (length s - 1) (omega arith) x.right d) b)
    go false q f = absurd (let z : ◌≡◌ {A = ℕ} 0 1 = cc in omega arith)

-- A field's type and name.
pub field_octets : {s : List ℕ} → Utf8Octets s → {x : Field} → field_of s ≡ Some x → Utf8Octets (part_of s x.declared) × Utf8Octets (part_of s x.name)
field_octets {s} o {x} e = go (last_white s) refl e
  where
    go : (p : Option ℕ) → last_white s ≡ p → field_split s p ≡ Some x → Utf8Octets (part_of s x.declared) × Utf8Octets (part_of s x.name)
    go None q f = absurd (let z : ◌≡◌ {A = ℕ} 0 1 = cc in omega arith)
    go (Some i) q f =
        let here = last_inside starts_white s q in
        let a : trim_both (take i s) ≡ x.declared = some_part (λ (r : Field). r.declared) f in
        let b : shift i (trim_both (drop i s)) ≡ x.name = some_part (λ (r : Field). r.name) f in
        let white = last_white_fresh s q in (
          octets_as (take_part s i (omega arith) (trim_both (take i s)) (trim_lies (take i s)) ∙ ap (part_of s) a) (trim_octets (take_octets o i white)),
          octets_as (stands_part (drop_stands s i) (trim_both (drop i s)) (trim_lies (drop i s)) ∙ ap (part_of s) b) (trim_octets (drop_octets o i white)),
        )

-- A method's name, with its owner.
abbrev pub NameOctets : List ℕ → Qualified → Type 0
NameOctets s (Owned owner name) = Utf8Octets (part_of s owner) × Utf8Octets (part_of s name)
NameOctets s (Plain name) = Utf8Octets (part_of s name)

-- all of a text, as a part of it
whole_part : (s : List ℕ) → part_of s (span 0 (length s)) ≡ s
whole_part s = let z : length s - 0 ≡ length s = omega arith in ap (λ n. take n s) z ∙ take-length s

start_part : (s : List ℕ) (i : ℕ) → part_of s (span 0 i) ≡ take i s
start_part s i = let z : i - 0 ≡ i = omega arith in ap (λ n. take n s) z

end_part : (s : List ℕ) (i : ℕ) → part_of s (span i (length s)) ≡ drop i s
end_part s i = take_rest s i

name_octets : {s : List ℕ} → Utf8Octets s → NameOctets s (qualified_of s)
name_octets {s} o = go (last_where (starts 0x2E) s) refl
  where
    go : (p : Option ℕ) → last_where (starts 0x2E) s ≡ p → NameOctets s (qualified_at s p)
    go None q = octets_as (sym (whole_part s)) o
    go (Some i) q =
        let here = last_inside (starts 0x2E) s q in
        let dot = last_is 0x2E s q in (
          octets_as (sym (start_part s i)) (take_octets o i (fresh_ascii s i (omega arith))),
          octets_as (sym (end_part s (i + 1))) (after_octets o i here (omega arith)),
        )

name_stands : {s : List ℕ} {by : ℕ} {t : List ℕ} → Stands s by t → (q : Qualified) → NameIn q (length t) → NameOctets t q → NameOctets s (shift_name by q)
name_stands k (Owned owner name) (l, m) (a, b) = (octets_as (stands_part k owner l) a, octets_as (stands_part k name m) b)
name_stands k (Plain name) l a = octets_as (stands_part k name l) a

name_take : (s : List ℕ) (i : ℕ) → i ≤ length s → (q : Qualified) → NameIn q (length (take i s)) → NameOctets (take i s) q → NameOctets s q
name_take s i h (Owned owner name) (l, m) (a, b) = (octets_as (take_part s i h owner l) a, octets_as (take_part s i h name m) b)
name_take s i h (Plain name) l a = octets_as (take_part s i h name l) a

name_as : (s : List ℕ) {p q : Qualified} → p ≡ q → NameOctets s p → NameOctets s q
name_as s e o = rw e at o

-- A method's name and arguments.
pub signature_octets : {s : List ℕ} → Utf8Octets s → {x : Signature} → method_signature s ≡ Some x →
    NameOctets s x.named × Utf8Octets (part_of s x.arguments)
signature_octets {s} o {x} e = go (first_where (starts 0x28) s) refl (last_where (starts 0x29) s) refl e
  where
    in_order : (i j : ℕ) → first_where (starts 0x28) s ≡ Some i → last_where (starts 0x29) s ≡ Some j → (b : Bool) →
        pick b None (Some (signature_with (qualified_of (take i s)) (span (i + 1) j) (lines_after (drop (j + 1) s)))) ≡ Some x →
        NameOctets s x.named × Utf8Octets (part_of s x.arguments)
    in_order i j p q true f = absurd (let z : ◌≡◌ {A = ℕ} 0 1 = cc in omega arith)
    in_order i j p q false f =
        let before = first_inside (starts 0x28) s p in
        let opens = first_is 0x28 s p in
        let closes = last_is 0x29 s q in
        let named : qualified_of (take i s) ≡ x.named = some_part (λ (r : Signature). r.named) f in
        let enclosed : span (i + 1) j ≡ x.arguments = some_part (λ (r : Signature). r.arguments) f in
        let lies : Lies (span (i + 1) j) (length s) = lies_as (sym enclosed) (signature_lies s e).1 in
        let front = take_octets o i (fresh_ascii s i (omega arith)) in (
          name_as s named (name_take s i (omega arith) (qualified_of (take i s)) (name_lies (take i s)) (name_octets front)),
          octets_as (ap (part_of s) enclosed) (part_octets o (i + 1) j lies.order (fresh_after o i before (omega arith)) (fresh_ascii s j (omega arith))),
        )

    go : (p : Option ℕ) → first_where (starts 0x28) s ≡ p → (q : Option ℕ) → last_where (starts 0x29) s ≡ q → method_signature_at s p q ≡ Some x →
        NameOctets s x.named × Utf8Octets (part_of s x.arguments)
    go None p q r f = absurd (let z : ◌≡◌ {A = ℕ} 0 1 = cc in omega arith)
    go (Some i) p None r f = absurd (let z : ◌≡◌ {A = ℕ} 0 1 = cc in omega arith)
    go (Some i) p (Some j) r f = in_order i j p r (ltb j i) f

-- A method's parts.
abbrev pub MethodOctets : List ℕ → Method → Type 0
MethodOctets s m = Utf8Octets (part_of s m.returned) × NameOctets s m.named × Utf8Octets (part_of s m.arguments)

method_as : (s : List ℕ) {a b : Method} → Some a ≡ Some b → MethodOctets s a → MethodOctets s b
method_as s {a} {b} e l = let q : a ≡ b = cc in rw q at l

settled_octets : (s : List ℕ) (returned : Span) (named : Qualified) (arguments : Span) (raw : Option LineRange) (lines : Option TrailingRange) →
    Utf8Octets (part_of s returned) → NameOctets s named → Utf8Octets (part_of s arguments) → MethodOctets s (settled_of returned named arguments raw lines)
settled_octets s returned named arguments raw (Some r) k l m = (k, l, m)
settled_octets s returned named arguments raw None k l m = (k, l, m)

stands_as_lem : {s : List ℕ} {by : ℕ} {t u : List ℕ} → t ≡ u → Stands s by t → Stands s by u
stands_as_lem e k = rw e at k

module _ {left : List ℕ} (o : Utf8Octets left) where
  from_octets : (rest : ℕ) (raw : Option LineRange) {m : Method} → Fresh (drop rest left) → method_from left rest raw ≡ Some m → MethodOctets left m
  from_octets rest raw {m} f e = by_white (first_white (drop rest left)) refl e
    where
      type_on : Utf8Octets (drop rest left)
      type_on = drop_octets o rest f

      by_signature : (white : ℕ) → first_white (drop rest left) ≡ Some white → (t : Option Signature) →
          method_signature (part_of (drop (rest + white) left) (trim_both (drop (rest + white) left))) ≡ t →
          with_signature (span rest (rest + white)) (rest + white + (trim_both (drop (rest + white) left)).start) raw t ≡ Some m → MethodOctets left m
      by_signature white p None q g = absurd (let z : ◌≡◌ {A = ℕ} 0 1 = cc in omega arith)
      by_signature white p (Some r) q g =
          let after : List ℕ = drop (rest + white) left in
          let part : Span = trim_both after in
          let by : ℕ = rest + white + part.start in
          let i = first_inside starts_white (drop rest left) p in
          let room = length-drop rest left in
          let left_room = length-drop (rest + white) left in
          let fresh = first_white_fresh (drop rest left) p in
          let behind : Utf8Octets after = octets_as (drop-drop white rest left) (drop_octets type_on white fresh) in
          let place : part_of after part ≡ part_of left (shift (rest + white) part) = stands_part (drop_stands left (rest + white)) part (trim_lies after) in
          let lies : Lies (shift (rest + white) part) (length left) = shift_lies (rest + white) part (length after) (length left) (omega arith) (trim_lies after) in
          let stands : Stands left by (part_of after part) = stands_as_lem (sym place) (part_stands left (shift (rest + white) part) lies) in
          let (a, b) = signature_octets (trim_octets behind) q in
          let (c, d) = signature_lies (part_of after part) q in
          let size : rest + white - rest ≡ white = omega arith in
          method_as left g
          (settled_octets left (span rest (rest + white)) (shift_name by r.named) (shift by r.arguments) raw r.lines
          (octets_as (ap (λ n. take n (drop rest left)) (sym size)) (take_octets type_on white fresh))
          (name_stands stands r.named c a) (octets_as (stands_part stands r.arguments d) b))

      by_white : (p : Option ℕ) → first_white (drop rest left) ≡ p → type_at left rest raw p ≡ Some m → MethodOctets left m
      by_white None q g = absurd (let z : ◌≡◌ {A = ℕ} 0 1 = cc in omega arith)
      by_white (Some white) q g = by_signature white q (method_signature (part_of (drop (rest + white) left) (trim_both (drop (rest + white) left)))) refl g

  -- what is left behind a raw range starts behind a colon
  leading_fresh : {x : LeadingRange} → leading_range left ≡ Some x → Fresh (drop x.rest left)
  leading_fresh e =
      let c = leading_behind left e in
      let k = c.stands in
      fresh_as (ap (λ n. drop n left) (sym c.next)) (fresh_after o c.colon c.inside (omega arith))

  pub method_octets : {m : Method} → method_of left ≡ Some m → MethodOctets left m
  method_octets {m} e = go (leading_range left) refl e
    where
      go : (t : Option LeadingRange) → leading_range left ≡ t → method_after left t ≡ Some m → MethodOctets left m
      go (Some r) q f = from_octets r.rest (Some (from_to r.start r.«end»)) (leading_fresh q) f
      go None q f = from_octets 0 None (octets_fresh o) f

pub method_stands : {s : List ℕ} {by : ℕ} {t : List ℕ} → Stands s by t → (m : Method) → MethodIn m (length t) → MethodOctets t m → MethodOctets s (shift_method by m)
method_stands k m (l, n, a) (x, y, z) = (octets_as (stands_part k m.returned l) x, name_stands k m.named n y, octets_as (stands_part k m.arguments a) z)

-- Arguments.
splits_commas : Splitting 0x2C comma_parts
unfolding comma_parts
splits_commas = record { ascii = omega arith; ends = inr refl; splits = λ s. refl; stays = λ b s n. rw (ne_eqb b 0x2C n) }

filled_texts : {ls : List (List ℕ)} → Texts ls → Texts (filled ls)
unfolding filled
filled_texts no_text = no_text
filled_texts (text {l} {ls} o t) = go (is_empty (trim_both l)) (filled_texts t)
  where
    go : (b : Bool) → Texts (filled ls) → Texts (pick b (filled ls) (part_of l (trim_both l) ∷ filled ls))
    go true w = w
    go false w = text (trim_octets o) w

pub arguments_texts : {s : List ℕ} → Utf8Octets s → Texts (arguments_of s)
arguments_texts o = filled_texts (split_texts splits_commas o)
