-- The `{` of a comment stands in its line. Assumes nothing.
use Rattle.std.specs.Prelude.{Option, Some, None}
use mathlib.Core.Path.{◌≡◌, refl, sym, ◌∙◌, ap}
use mathlib.Core.Bool.{Bool, true, false}
use mathlib.Core.List.{List}
use Prim.Native.Nat.{ℕ, ◌+◌, ◌^◌, ◌<◌}
use native.Mathlib.Omega.{arith}
use lib.ListN.{length}
use Rattle.ground.specs.Choice.{pick}
use Rattle.text_places.specs.Places.{first_where, starts, place_number}
use Rattle.text_places.proofs.PlaceLaws.{first_inside}
use Rattle.text_places.specs.declared.spans.Span.{Span}
use Rattle.text_white.specs.Trim.{trim_both, starts_white}
use Rattle.line.specs.declared.line.Line.{Line}
use Rattle.line.specs.declared.line.Line.TheVariants as lines
use Rattle.text_places.specs.Spans.{is_empty, part_of}
use Rattle.line_parts.specs.Arrows.{arrow_of, class_sides}
use Rattle.line_parts.specs.Fields.{field_of}
use Rattle.line_parts.specs.Methods.{method_of}
use Rattle.line.specs.Kinds.{place_from, comment_at, class_by, class_at, method_by, field_by, by_side, member_by, member_at, line_of}
use Rattle.line_parts.proofs.Lying.{trim_lies, part_length}
use Rattle.line_parts.specs.declared.method.Method.{Method}
use Rattle.line_parts.specs.declared.arrow.Sides.{Sides}
use Rattle.line_parts.specs.declared.field.Field.{Field}

-- No other line is a comment.
class_other : (by : ℕ) (a : Option Sides) {p : Option ℕ} → class_by by a ≡ lines.Comment p → ⊥
class_other by None f = let z : ◌≡◌ {A = ℕ} 0 1 = cc in omega arith
class_other by (Some x) f = let z : ◌≡◌ {A = ℕ} 0 1 = cc in omega arith

field_other : (by : ℕ) (raw : Span) (x : Option Field) {p : Option ℕ} → field_by by raw x ≡ lines.Comment p → ⊥
field_other by raw None f = let z : ◌≡◌ {A = ℕ} 0 1 = cc in omega arith
field_other by raw (Some r) f = let z : ◌≡◌ {A = ℕ} 0 1 = cc in omega arith

method_other : (by : ℕ) (raw : Span) (x : Option Method) {p : Option ℕ} → method_by by raw x ≡ lines.Comment p → ⊥
method_other by raw None f = let z : ◌≡◌ {A = ℕ} 0 1 = cc in omega arith
method_other by raw (Some m) f = let z : ◌≡◌ {A = ℕ} 0 1 = cc in omega arith

side_other : (by : ℕ) (raw : Span) (left : List ℕ) (x : Option ℕ) {p : Option ℕ} → by_side by raw left x ≡ lines.Comment p → ⊥
side_other by raw left None f = field_other by raw (field_of left) f
side_other by raw left (Some i) f = method_other by raw (method_of left) f

member_other : (by : ℕ) (s : List ℕ) (a : Option Sides) {p : Option ℕ} → member_by by s a ≡ lines.Comment p → ⊥
member_other by s None f = let z : ◌≡◌ {A = ℕ} 0 1 = cc in omega arith
member_other by s (Some x) f = side_other (by + x.left.start) _ (part_of s x.left) (first_where (starts 0x28) (part_of s x.left)) f

-- The place of the `{` in what starts at the place `by`.
brace_from : (by : ℕ) (s : List ℕ) {i : ℕ} → comment_at by s ≡ lines.Comment (Some i) → i < by + length s
brace_from by s {i} e = go (first_where (starts 0x7B) s) refl e
  where
    go : (p : Option ℕ) → first_where (starts 0x7B) s ≡ p → lines.Comment (place_from by p) ≡ lines.Comment (Some i) → i < by + length s
    go None q f = absurd (let z : ◌≡◌ {A = ℕ} 0 1 = cc in omega arith)
    go (Some j) q f = let same : by + j ≡ i = cc in let here = first_inside (starts 0x7B) s q in omega arith

brace_inside : (s : List ℕ) {i : ℕ} → line_of s ≡ lines.Comment (Some i) → i < length s
brace_inside s {i} e = go (is_empty (trim_both s)) (starts 0x23 (part_of s (trim_both s))) (starts_white s) e
  where
    by : ℕ
    by = (trim_both s).start

    part : List ℕ
    part = part_of s (trim_both s)

    go : (a b c : Bool) → pick a lines.Blank (pick b (comment_at by part) (pick c (member_at by part) (class_at by part))) ≡ lines.Comment (Some i) → i < length s
    go true b c f = absurd (let z : ◌≡◌ {A = ℕ} 0 1 = cc in omega arith)
    go false true c f =
        let here = brace_from by part f in
        let size = part_length s (trim_both s) (trim_lies s) in
        let order = (trim_lies s).order in
        let within = (trim_lies s).within in
        omega arith
    go false false true f = absurd (member_other by part (arrow_of part) f)
    go false false false f = absurd (class_other by (class_sides part) f)

pub brace_counts : (s : List ℕ) {t : Line} {p : Option ℕ} → t ≡ line_of s → t ≡ lines.Comment p → length s < 2 ^ 64 → place_number p < 2 ^ 64
brace_counts s {t} {p} e g h = go p refl
  where
    go : (q : Option ℕ) → p ≡ q → place_number q < 2 ^ 64
    go None f = omega arith
    go (Some i) f = let here = brace_inside s (sym e ∙ g ∙ ap lines.Comment f) in omega arith
