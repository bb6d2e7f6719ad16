-- The parts of a line lie in it. Assumes nothing.
use Rattle.std.specs.Prelude.{Option, Some, None}
use mathlib.Core.Path.{◌≡◌, refl, ap}
use mathlib.Core.Bool.{Bool, true, false}
use mathlib.Core.List.{List}
use Prim.Native.Nat.{ℕ, ◌+◌, ◌-◌, ◌≤◌}
use native.Mathlib.Omega.{arith}
use lib.Dec.{ltb, eqb}
use lib.ListN.{length, get_or, take, drop, length-take, length-drop}
use borrow.Author.Tests.{ltb-false, eqb-true, eqb-false}
use Rattle.ground.specs.Choice.{pick}
use Rattle.text_places.specs.Places.{first_where, last_where, starts, starts_pair}
use Rattle.text_places.proofs.PlaceLaws.{first_inside, last_inside}
use Rattle.text_places.proofs.Holds.{first_is, last_is, pair_inside}
use Rattle.text_places.specs.declared.spans.Span.{Span}
use Rattle.text_white.specs.Trim.{trim_both, starts_white, last_white}
use Rattle.line_parts.specs.declared.signature.Qualified.{Qualified}
use Rattle.line_parts.specs.declared.signature.Qualified.TheVariants.{Owned, Plain}
use Rattle.text_places.specs.Spans.{span, shift, is_empty, part_of, Lies}
use Rattle.line_parts.specs.Signatures.{NameIn, qualified_at, qualified_of, lines_after, method_signature_at, method_signature}
use Rattle.line_parts.specs.Arrows.{sides_of, split_at, arrow_of, class_sides, two_sides}
use Rattle.line_parts.specs.Fields.{field_split, field_of, type_and_name}
use Rattle.line_parts.specs.Methods.{shift_name}
use Rattle.line_parts.specs.Signatures.{signature_with}
use Rattle.text_white.proofs.TrimLaws.{trim_inside, trim_order}
use Rattle.ground.proofs.Parts.{between_length}
use Rattle.number.specs.declared.range.TrailingRange.{TrailingRange}
use Rattle.line_parts.specs.declared.arrow.Sides.{Sides}
use Rattle.line_parts.specs.declared.signature.Signature.{Signature}
use Rattle.line_parts.specs.declared.field.Field.{Field}
use Rattle.ground.proofs.Answered.{some_part}

pub trim_lies : (s : List ℕ) → Lies (trim_both s) (length s)
trim_lies s = record { order = trim_order s; within = trim_inside s }

pub lies_as : {p q : Span} {n : ℕ} → p ≡ q → Lies p n → Lies q n
lies_as e l = rw e at l

pub lies_more : {p : Span} {m n : ℕ} → m ≤ n → Lies p m → Lies p n
lies_more h l = let w = l.within in record { order = l.order; within = omega arith }

pub shift_lies : (by : ℕ) (p : Span) (m n : ℕ) → by + m ≤ n → Lies p m → Lies (shift by p) n
shift_lies by p m n h l = let o = l.order in let w = l.within in record { order = omega arith; within = omega arith }

pub part_length : (s : List ℕ) (p : Span) → Lies p (length s) → length (part_of s p) ≡ p.«end» - p.start
part_length s p l = between_length s p.start p.«end» l.within

-- The sides of an arrow.
pub sides_are : (a : Span) (n : ℕ) (b : Span) {w : Sides} → sides_of a n b ≡ Some w → (a ≡ w.left) × (shift n b ≡ w.right)
sides_are a n b {w} e = go (is_empty a) (is_empty b) e
  where
    go : (x y : Bool) → pick x None (pick y None (Some (two_sides a (shift n b)))) ≡ Some w → (a ≡ w.left) × (shift n b ≡ w.right)
    go true y f = absurd (let z : ◌≡◌ {A = ℕ} 0 1 = cc in omega arith)
    go false true f = absurd (let z : ◌≡◌ {A = ℕ} 0 1 = cc in omega arith)
    go false false f = (cc, cc)

pub arrow_lies : (s : List ℕ) {x : Sides} → arrow_of s ≡ Some x → Lies x.left (length s) × Lies x.right (length s)
arrow_lies s {x} e = go (first_where (starts_pair 0x2D 0x3E) s) refl e
  where
    go : (p : Option ℕ) → first_where (starts_pair 0x2D 0x3E) s ≡ p → split_at s p ≡ Some x → Lies x.left (length s) × Lies x.right (length s)
    go None q f = absurd (let z : ◌≡◌ {A = ℕ} 0 1 = cc in omega arith)
    go (Some i) q f =
        let (a, b) = sides_are (trim_both (take i s)) (i + 2) (trim_both (drop (i + 2) s)) f in
        let room = pair_inside 0x2D 0x3E s q in
        let left_length = length-take i s in
        let right_length = length-drop (i + 2) s in (
          lies_as a (lies_more (omega arith) (trim_lies (take i s))),
          lies_as b (shift_lies (i + 2) (trim_both (drop (i + 2) s)) (length (drop (i + 2) s)) (length s) (omega arith) (trim_lies (drop (i + 2) s))),
        )

pub class_lies : (s : List ℕ) {x : Sides} → class_sides s ≡ Some x → Lies x.left (length s) × Lies x.right (length s)
class_lies s {x} e = go (eqb (get_or s (length s - 1) 0) 0x3A) e
  where
    go : (b : Bool) → pick b (arrow_of (take (length s - 1) s)) None ≡ Some x → Lies x.left (length s) × Lies x.right (length s)
    go true f =
        let (a, b) = arrow_lies (take (length s - 1) s) f in
        let n = length-take (length s - 1) s in
        (lies_more (omega arith) a, lies_more (omega arith) b)
    go false f = absurd (let z : ◌≡◌ {A = ℕ} 0 1 = cc in omega arith)

-- A field's type and name.
pub field_lies : (s : List ℕ) {x : Field} → field_of s ≡ Some x → Lies x.declared (length s) × Lies x.name (length s)
field_lies s {x} e = go (last_white s) refl e
  where
    go : (p : Option ℕ) → last_white s ≡ p → field_split s p ≡ Some x → Lies x.declared (length s) × Lies x.name (length s)
    go None q f = absurd (let z : ◌≡◌ {A = ℕ} 0 1 = cc in omega arith)
    go (Some i) q f =
        let here = last_inside starts_white s q in
        let a : trim_both (take i s) ≡ x.declared = some_part (λ (r : Field). r.declared) f in
        let b : shift i (trim_both (drop i s)) ≡ x.name = some_part (λ (r : Field). r.name) f in
        let left_length = length-take i s in
        let right_length = length-drop i s in (
          lies_as a (lies_more (omega arith) (trim_lies (take i s))),
          lies_as b (shift_lies i (trim_both (drop i s)) (length (drop i s)) (length s) (omega arith) (trim_lies (drop i s))),
        )

-- A method's name and arguments.
pub name_lies : (s : List ℕ) → NameIn (qualified_of s) (length s)
name_lies s = go (last_where (starts 0x2E) s) refl
  where
    go : (p : Option ℕ) → last_where (starts 0x2E) s ≡ p → NameIn (qualified_at s p) (length s)
    go None q = record { order = omega arith; within = omega arith }
    go (Some i) q =
        let here = last_inside (starts 0x2E) s q in
        (record { order = omega arith; within = omega arith }, record { order = omega arith; within = omega arith })

name_as : {p q : Qualified} (n : ℕ) → p ≡ q → NameIn p n → NameIn q n
name_as n e l = rw e at l

pub name_more : (q : Qualified) {m n : ℕ} → m ≤ n → NameIn q m → NameIn q n
name_more (Owned o a) h (k, l) = (lies_more h k, lies_more h l)
name_more (Plain a) h l = lies_more h l

-- the parentheses are different bytes
apart : (s : List ℕ) (i j : ℕ) → get_or s i 0 ≡ 0x28 → get_or s j 0 ≡ 0x29 → i ≤ j → i + 1 ≤ j
apart s i j a b h = go (eqb i j) refl
  where
    go : (t : Bool) → eqb i j ≡ t → i + 1 ≤ j
    go true e = absurd (let same_place = eqb-true i j e in let f : get_or s i 0 ≡ get_or s j 0 = ap (λ k. get_or s k 0) same_place in omega arith)
    go false e = let d = eqb-false i j e in omega arith

pub signature_lies : (s : List ℕ) {x : Signature} → method_signature s ≡ Some x → NameIn x.named (length s) × Lies x.arguments (length s)
signature_lies s {x} e = go (first_where (starts 0x28) s) refl (last_where (starts 0x29) s) refl e
  where
    in_order : (i j : ℕ) → first_where (starts 0x28) s ≡ Some i → last_where (starts 0x29) s ≡ Some j → (b : Bool) → ltb j i ≡ b →
        pick b None (Some (signature_with (qualified_of (take i s)) (span (i + 1) j) (lines_after (drop (j + 1) s)))) ≡ Some x → NameIn x.named (length s) × Lies x.arguments (length s)
    in_order i j p q true h f = absurd (let z : ◌≡◌ {A = ℕ} 0 1 = cc in omega arith)
    in_order i j p q false h f =
        let before = first_inside (starts 0x28) s p in
        let after = last_inside (starts 0x29) s q in
        let order = apart s i j (first_is 0x28 s p) (last_is 0x29 s q) (ltb-false j i h) in
        let named : qualified_of (take i s) ≡ x.named = some_part (λ (r : Signature). r.named) f in
        let enclosed : span (i + 1) j ≡ x.arguments = some_part (λ (r : Signature). r.arguments) f in
        let size = length-take i s in
        (name_as (length s) named (name_more (qualified_of (take i s)) (omega arith) (name_lies (take i s))), lies_as enclosed (record { order = order; within = omega arith }))

    go : (p : Option ℕ) → first_where (starts 0x28) s ≡ p → (q : Option ℕ) → last_where (starts 0x29) s ≡ q → method_signature_at s p q ≡ Some x → NameIn x.named (length s) × Lies x.arguments (length s)
    go None p q r f = absurd (let z : ◌≡◌ {A = ℕ} 0 1 = cc in omega arith)
    go (Some i) p None r f = absurd (let z : ◌≡◌ {A = ℕ} 0 1 = cc in omega arith)
    go (Some i) p (Some j) r f = in_order i j p r (ltb j i) refl f

pub shift_name_lies : (by : ℕ) (q : Qualified) (m n : ℕ) → by + m ≤ n → NameIn q m → NameIn (shift_name by q) n
shift_name_lies by (Owned o a) m n h (k, l) = (shift_lies by o m n h k, shift_lies by a m n h l)
shift_name_lies by (Plain a) m n h l = shift_lies by a m n h l
