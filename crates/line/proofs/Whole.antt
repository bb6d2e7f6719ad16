-- All parts of a line lie in what is left of it when it is trimmed. Assumes nothing.
use Rattle.std.specs.Prelude.{Option, Some, None}
use mathlib.Core.Path.{◌≡◌, refl}
use mathlib.Core.Bool.{Bool, true, false}
use mathlib.Core.List.{List}
use Prim.Native.Nat.{ℕ, ◌+◌, ◌-◌, ◌≤◌, ◌<◌}
use native.Mathlib.Omega.{arith}
use lib.ListN.{length}
use Rattle.ground.specs.Choice.{pick}
use Rattle.text_places.specs.Places.{first_where, starts}
use Rattle.text_places.proofs.PlaceLaws.{first_inside}
use Rattle.text_places.specs.declared.spans.Span.{Span}
use Rattle.text_white.specs.Trim.{trim_both, starts_white}
use Rattle.line.specs.declared.line.Line.{Line}
use Rattle.line.specs.declared.line.Line.TheVariants.{Blank, Comment, Class, Field, Method, Refused}
use Rattle.text_places.specs.Spans.{shift, is_empty, part_of, Lies}
use Rattle.line_parts.specs.Arrows.{arrow_of, class_sides}
use Rattle.line_parts.specs.Fields.{field_of}
use Rattle.line_parts.specs.Methods.{MethodIn, method_of}
use Rattle.line.specs.Kinds.{place_from, comment_at, class_by, class_at, method_by, method_at, field_by, field_at, by_side, member_by, member_at, line_in, line_of}
use Rattle.line_parts.proofs.Lying.{trim_lies, arrow_lies, class_lies, field_lies, shift_lies, part_length}
use Rattle.line_parts.proofs.Methods.{method_lies, shift_method_lies}
use Rattle.line_parts.specs.declared.method.Method as method
use Rattle.line_parts.specs.declared.arrow.Sides.{Sides}
use Rattle.line_parts.specs.declared.field.Field as fields

-- all parts lie in the first `n` bytes
abbrev pub LineIn : Line → ℕ → Type 0
LineIn Blank n = Unit {0}
LineIn (Comment None) n = Unit {0}
LineIn (Comment (Some brace)) n = brace < n
LineIn (Class display raw) n = Lies display n × Lies raw n
LineIn (Field declared name raw) n = Lies declared n × Lies name n × Lies raw n
LineIn (Method m raw) n = MethodIn m n × Lies raw n
LineIn (Refused number) n = Unit {0}

module _ (by n : ℕ) (s : List ℕ) (h : by + length s ≤ n) where
  comment_in : LineIn (comment_at by s) n
  comment_in = go (first_where (starts 0x7B) s) refl
    where
      go : (p : Option ℕ) → first_where (starts 0x7B) s ≡ p → LineIn (Comment (place_from by p)) n
      go None e = tt
      go (Some i) e = let j = first_inside (starts 0x7B) s e in omega arith

  class_in_lem : LineIn (class_at by s) n
  class_in_lem = go (class_sides s) refl
    where
      go : (a : Option Sides) → class_sides s ≡ a → LineIn (class_by by a) n
      go None e = tt
      go (Some x) e = (shift_lies by x.left (length s) n h (class_lies s e).0, shift_lies by x.right (length s) n h (class_lies s e).1)

  module _ (raw : Span) (i : Lies raw n) where
    field_in : LineIn (field_at by raw s) n
    field_in = go (field_of s) refl
      where
        go : (f : Option fields.Field) → field_of s ≡ f → LineIn (field_by by raw f) n
        go None e = tt
        go (Some r) e = (shift_lies by r.declared (length s) n h (field_lies s e).0, shift_lies by r.name (length s) n h (field_lies s e).1, i)

    method_in : LineIn (method_at by raw s) n
    method_in = go (method_of s) refl
      where
        go : (m : Option method.Method) → method_of s ≡ m → LineIn (method_by by raw m) n
        go None e = tt
        go (Some m) e = (shift_method_lies by m (length s) n h (method_lies s e), i)

    side_in : (p : Option ℕ) → LineIn (by_side by raw s p) n
    side_in None = field_in
    side_in (Some k) = method_in

member_in : (by n : ℕ) (s : List ℕ) → by + length s ≤ n → LineIn (member_at by s) n
member_in by n s h = go (arrow_of s) refl
  where
    go : (a : Option Sides) → arrow_of s ≡ a → LineIn (member_by by s a) n
    go None e = tt
    go (Some x) e =
        let i = (arrow_lies s e).0 in
        let o = i.order in
        let w = i.within in
        let z = part_length s x.left i in
        side_in (by + x.left.start) n (part_of s x.left) (omega arith) (shift by x.right) (shift_lies by x.right (length s) n h (arrow_lies s e).1) (first_where (starts 0x28) (part_of s x.left))

parts_in : (s : List ℕ) (p : Span) → Lies p (length s) → LineIn (line_in s p) p.«end»
parts_in s p i = go (is_empty p) (starts 0x23 (part_of s p)) (starts_white s)
  where
    go : (a b c : Bool) →
        LineIn (pick a Blank (pick b (comment_at p.start (part_of s p)) (pick c (member_at p.start (part_of s p)) (class_at p.start (part_of s p))))) p.«end»
    go true b c = tt
    go false true c = comment_in p.start p.«end» (part_of s p) (let o = i.order in let z = part_length s p i in omega arith)
    go false false true = member_in p.start p.«end» (part_of s p) (let o = i.order in let z = part_length s p i in omega arith)
    go false false false = class_in_lem p.start p.«end» (part_of s p) (let o = i.order in let z = part_length s p i in omega arith)

-- what `line` says of a line lies in it
pub line_lies : (s : List ℕ) → LineIn (line_of s) (trim_both s).«end»
line_lies s = parts_in s (trim_both s) (trim_lies s)

-- the JSON of a comment ends behind its `{`
pub brace_inside : (s : List ℕ) {brace : ℕ} → line_of s ≡ Comment (Some brace) → brace < (trim_both s).«end»
brace_inside s e = rw e at (line_lies s)
