-- What a line is. Assumes nothing.
use Rattle.std.specs.Prelude.{Option, Some, None}
use mathlib.Core.Path.{◌≡◌, sym, ◌∙◌, ap}
use mathlib.Core.Bool.{Bool, true, false}
use mathlib.Core.List.{List, ◌∷◌}
use Prim.Native.Nat.{ℕ, suc, ◌+◌, ◌-◌, ◌^◌, ◌≤◌, ◌<◌}
use native.Mathlib.Omega.{arith}
use lib.Dec.{eqb, ltb}
use lib.ListN.{length, get_or, drop}
use lib.Seq.{drop-cons}
use mir.Val.{Fits}
use mir.Syntax.{w64}
use borrow.Author.Tests.{eq-eqb, ne_eqb, lt-ltb, le-ltb}
use borrow.Author.Rules.{rules}
use Rattle.ground.specs.Choice.{pick}
use Rattle.ground.specs.Put.{between}
use Rattle.text_places.specs.Places.{first_where, starts}
use Rattle.text_places.proofs.PlaceLaws.{first_inside}
use Rattle.text_places.specs.declared.spans.Span.{Span}
use Rattle.text_white.specs.Trim.{trim_both, starts_white}
use Rattle.line_parts.specs.declared.method.Method.{Method}
use Rattle.line.specs.declared.line.Refusal.TheVariants as refusal
use Rattle.line.specs.declared.line.Line.{Line}
use Rattle.line.specs.declared.line.Line.TheVariants as lines
use Rattle.text_places.specs.Spans.{shift, part_of, Lies, largest}
use Rattle.line_parts.specs.Arrows.{arrow_of, class_sides, two_sides}
use Rattle.line_parts.specs.Fields.{field_of, type_and_name}
use Rattle.line_parts.specs.Methods.{shift_method, MethodIn, method_of}
use Rattle.line_parts.specs.Inner.Opening.{Opens}
use Rattle.line.specs.Kinds.{place_from, comment_at, class_by, class_at, method_by, method_at, field_by, field_at, by_side, member_by, member_at, line_in, line_of}
use Rattle.text_white.proofs.TrimLaws.{trim_inside, trim_order, starts_trimmed}
use Rattle.line_parts.proofs.Lying.{arrow_lies, class_lies, field_lies, shift_lies, part_length}
use Rattle.line_parts.proofs.Methods.{method_lies, shift_method_lies}
use Rattle.line_parts.specs.declared.arrow.Sides.{Sides}
use Rattle.line_parts.specs.declared.field.Field.{Field}

-- Comments.
module _ (s : List ℕ) (by : ℕ) {p : Option ℕ} (e : p ≡ first_where (starts 0x7B) s) where
  pub comment_none : p ≡ None → lines.Comment None ≡ comment_at by s
  comment_none g = sym (ap (λ x. lines.Comment (place_from by x)) (sym e ∙ g))

  module _ {i : ℕ} (g : p ≡ Some i) where
    pub comment_fits : by + length s ≤ largest → Fits w64 (by + i)
    comment_fits h = let j = first_inside (starts 0x7B) s (sym e ∙ g) in omega arith

    pub comment_at_lem : lines.Comment (Some (by + i)) ≡ comment_at by s
    comment_at_lem = sym (ap (λ x. lines.Comment (place_from by x)) (sym e ∙ g))

pub ruleset commenting = (comment_none, comment_fits, comment_at_lem, rules)

-- Classes.
module _ (s : List ℕ) (by : ℕ) (h : by + length s ≤ largest) {t : Option Sides} (e : t ≡ class_sides s) where
  pub class_none : t ≡ None → lines.Refused refusal.Class ≡ class_at by s
  class_none g = sym (ap (class_by by) (sym e ∙ g))

  module _ {y : Sides} (g : t ≡ Some y) where
    pub class_left : Lies (shift by y.left) largest
    class_left = shift_lies by y.left (length s) largest h (class_lies s (sym e ∙ g)).0

    pub class_right : Lies (shift by y.right) largest
    class_right = shift_lies by y.right (length s) largest h (class_lies s (sym e ∙ g)).1

    pub class_read : {a b : Span} → a ≡ shift by y.left → b ≡ shift by y.right → lines.Class a b ≡ class_at by s
    class_read {a} f k = ap (lines.Class a) k ∙ ap (λ x. lines.Class x (shift by y.right)) f ∙ sym (ap (class_by by) (sym e ∙ g))

pub ruleset classing = (class_none, class_left, class_right, class_read, rules)

-- Methods.
module _ (s : List ℕ) (by : ℕ) (raw : Span) (h : by + length s ≤ largest) {t : Option Method} (e : t ≡ method_of s) where
  pub method_none : t ≡ None → lines.Refused refusal.Method ≡ method_at by raw s
  method_none g = sym (ap (method_by by raw) (sym e ∙ g))

  module _ {m : Method} (g : t ≡ Some m) where
    pub method_shift : MethodIn (shift_method by m) largest
    method_shift = shift_method_lies by m (length s) largest h (method_lies s (sym e ∙ g))

    pub method_line : {n : Method} → n ≡ shift_method by m → lines.Method n raw ≡ method_at by raw s
    method_line f = ap (λ x. lines.Method x raw) f ∙ sym (ap (method_by by raw) (sym e ∙ g))

pub ruleset method_lines = (method_none, method_shift, method_line, rules)

-- Fields.
module _ (s : List ℕ) (by : ℕ) (raw : Span) (h : by + length s ≤ largest) {t : Option Field} (e : t ≡ field_of s) where
  pub field_none : t ≡ None → lines.Refused refusal.Field ≡ field_at by raw s
  field_none g = sym (ap (field_by by raw) (sym e ∙ g))

  module _ {y : Field} (g : t ≡ Some y) where
    pub field_declared : Lies (shift by y.declared) largest
    field_declared = shift_lies by y.declared (length s) largest h (field_lies s (sym e ∙ g)).0

    pub field_name_lem : Lies (shift by y.name) largest
    field_name_lem = shift_lies by y.name (length s) largest h (field_lies s (sym e ∙ g)).1

    pub field_line : {a b : Span} → a ≡ shift by y.declared → b ≡ shift by y.name → lines.Field a b raw ≡ field_at by raw s
    field_line {a} f k = ap (λ x. lines.Field a x raw) k ∙ ap (λ x. lines.Field x (shift by y.name) raw) f ∙ sym (ap (field_by by raw) (sym e ∙ g))

pub ruleset field_lines = (field_none, field_declared, field_name_lem, field_line, rules)

-- Members.
module _ (s : List ℕ) (by : ℕ) (h : by + length s ≤ largest) {t : Option Sides} (e : t ≡ arrow_of s) where
  pub member_none : t ≡ None → lines.Refused refusal.Member ≡ member_at by s
  member_none g = sym (ap (member_by by s) (sym e ∙ g))

  module _ {y : Sides} (g : t ≡ Some y) where
    lie : Lies y.left (length s) × Lies y.right (length s)
    lie = arrow_lies s (sym e ∙ g)

    pub member_order : y.left.start ≤ y.left.«end»
    member_order = lie.0.order

    pub member_inside : y.left.«end» ≤ length s
    member_inside = lie.0.within

    pub member_raw : Lies (shift by y.right) largest
    member_raw = shift_lies by y.right (length s) largest h lie.1

    pub member_base : Fits w64 (by + y.left.start)
    member_base = let o = lie.0.order in let w = lie.0.within in omega arith

    pub member_room : by + y.left.start + length (between s y.left.start y.left.«end») ≤ largest
    member_room = let o = lie.0.order in let w = lie.0.within in let n = part_length s y.left lie.0 in omega arith

    module _ {raw : Span} (f : raw ≡ shift by y.right) {p : Option ℕ} (q : p ≡ first_where (starts 0x28) (between s y.left.start y.left.«end»)) where
      whole : {x : Option ℕ} → p ≡ x → member_at by s ≡ by_side (by + y.left.start) raw (part_of s y.left) x
      whole k =
          ap (member_by by s) (sym e ∙ g) ∙ ap (λ x. by_side (by + y.left.start) x (part_of s y.left) (first_where (starts 0x28) (part_of s y.left))) (sym f)
          ∙ ap (by_side (by + y.left.start) raw (part_of s y.left)) (sym q ∙ k)

      pub member_field : p ≡ None → {z : Line} → z ≡ field_at (by + y.left.start) raw (between s y.left.start y.left.«end») → z ≡ member_at by s
      member_field k u = u ∙ sym (whole k)

      pub member_opens : {i : ℕ} → p ≡ Some i → Opens (between s y.left.start y.left.«end») i
      member_opens k = sym q ∙ k

      pub member_method : {i : ℕ} → p ≡ Some i → {z : Line} → z ≡ method_at (by + y.left.start) raw (between s y.left.start y.left.«end») → z ≡ member_at by s
      member_method k u = u ∙ sym (whole k)

pub ruleset membering = (member_none, member_order, member_inside, member_raw, member_base, member_room, member_field, member_opens, member_method, rules)

-- The line.
hash_head : (s : List ℕ) (p : Span) → Lies p (length s) → (p.start ≡ p.«end» → ⊥) → starts 0x23 (part_of s p) ≡ eqb (get_or s p.start 0) 0x23
hash_head s p l n =
    let o = l.order in
    let w = l.within in
    let here : drop p.start s ≡ get_or s p.start 0 ∷ drop (suc p.start) s = drop-cons s p.start 0 (omega arith) in
    let more : p.«end» - p.start ≡ suc (p.«end» - p.start - 1) = omega arith in
    rw (here, more)

module _ (s : List ℕ) {p : Span} (e : p ≡ trim_both s) where
  lies : Lies p (length s)
  lies = rw e (record { order = trim_order s; within = trim_inside s })

  in_it : line_of s ≡ line_in s p
  in_it = ap (line_in s) (sym e)

  pub line_blank : p.start ≡ p.«end» → lines.Blank ≡ line_of s
  line_blank z = sym (in_it ∙ rw (eq-eqb p.start p.«end» z))

  module _ (n : p.start ≡ p.«end» → ⊥) where
    pub line_order : p.start ≤ p.«end»
    line_order = lies.order

    pub line_inside : p.«end» ≤ length s
    line_inside = lies.within

    pub line_first : p.start < length s
    line_first = let o = lies.order in let w = lies.within in omega arith

    pub line_room : length s < 2 ^ 64 → p.start + length (between s p.start p.«end») ≤ largest
    line_room b = let o = lies.order in let w = lies.within in let z = part_length s p lies in omega arith

    pub line_comment : get_or s p.start 0 ≡ 0x23 → {z : Line} → z ≡ comment_at p.start (between s p.start p.«end») → z ≡ line_of s
    line_comment c u = u ∙ sym (in_it ∙ rw (ne_eqb p.start p.«end» n, hash_head s p lies n, eq-eqb (get_or s p.start 0) 0x23 c))

    module _ (c : get_or s p.start 0 ≡ 0x23 → ⊥) where
      told : (b : Bool) → starts_white s ≡ b → {z : Line} → z ≡ pick b (member_at p.start (between s p.start p.«end»)) (class_at p.start (between s p.start p.«end»)) → z ≡ line_of s
      told b w u = u ∙ sym (in_it ∙ rw (ne_eqb p.start p.«end» n, hash_head s p lies n, ne_eqb (get_or s p.start 0) 0x23 c, w))

      white : starts_white s ≡ ltb 0 p.start
      white = starts_trimmed s ∙ ap (λ q. ltb 0 q.start) (sym e)

      pub line_member : 0 < p.start → {z : Line} → z ≡ member_at p.start (between s p.start p.«end») → z ≡ line_of s
      line_member t u = told true (white ∙ lt-ltb 0 p.start t) u

      pub line_class : p.start ≤ 0 → {z : Line} → z ≡ class_at p.start (between s p.start p.«end») → z ≡ line_of s
      line_class t u = told false (white ∙ le-ltb 0 p.start t) u

pub ruleset kinding = (line_blank, line_order, line_inside, line_first, line_room, line_comment, line_member, line_class, rules)
