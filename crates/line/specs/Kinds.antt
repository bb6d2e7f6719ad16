-- Document 01 "Text and lines": what a line is. Parts are places in the line; `by` is the place in it at which the text spoken of starts.
use Rattle.std.specs.Prelude.{List, ℕ, ◌+◌, Option, Some, None}
use Rattle.ground.specs.Choice.{pick}
use Rattle.text_places.specs.Places.{first_where, starts}
use Rattle.text_places.specs.declared.spans.Span.{Span}
use Rattle.text_white.specs.Trim.{trim_both, starts_white}
use Rattle.line.specs.declared.line.Refusal.{Refusal}
use Rattle.line.specs.declared.line.Refusal.TheVariants as refusal
use Rattle.line.specs.declared.line.Line.{Line}
use Rattle.line.specs.declared.line.Line.TheVariants.{Blank, Comment, Class, Field, Method, Refused}
use Rattle.text_places.specs.Spans.{shift, is_empty, part_of}
use Rattle.line_parts.specs.Arrows.{arrow_of, class_sides}
use Rattle.line_parts.specs.Fields.{field_of}
use Rattle.line_parts.specs.Methods.{shift_method, method_of}
use Rattle.line_parts.specs.declared.method.Method as method
use Rattle.line_parts.specs.declared.arrow.Sides.{Sides}
use Rattle.line_parts.specs.declared.field.Field as fields

-- "3 invalid class mapping", "5 invalid member mapping", "6 invalid method mapping", "7 invalid field mapping"; 4 is the loader's
abbrev pub refusal_number : Refusal → ℕ
refusal_number refusal.Class = 3
refusal_number refusal.Member = 5
refusal_number refusal.Method = 6
refusal_number refusal.Field = 7

-- a place in what starts at the place `by`
abbrev pub place_from : ℕ → Option ℕ → Option ℕ
place_from by None = None
place_from by (Some i) = Some (by + i)

-- "The JSON starts at the first `{` of the trimmed line."
abbrev pub comment_at : ℕ → List ℕ → Line
comment_at by s = Comment (place_from by (first_where (starts 0x7B) s))

-- a class line, else 3
abbrev pub class_by : ℕ → Option Sides → Line
class_by by None = Refused refusal.Class
class_by by (Some r) = Class (shift by r.left) (shift by r.right)

abbrev pub class_at : ℕ → List ℕ → Line
class_at by s = class_by by (class_sides s)

-- a method, else 6
abbrev pub method_by : ℕ → Span → Option method.Method → Line
method_by by raw None = Refused refusal.Method
method_by by raw (Some m) = Method (shift_method by m) raw

abbrev pub method_at : ℕ → Span → List ℕ → Line
method_at by raw left = method_by by raw (method_of left)

-- a field, else 7
abbrev pub field_by : ℕ → Span → Option fields.Field → Line
field_by by raw None = Refused refusal.Field
field_by by raw (Some r) = Field (shift by r.declared) (shift by r.name) raw

abbrev pub field_at : ℕ → Span → List ℕ → Line
field_at by raw left = field_by by raw (field_of left)

-- "Left side with `(` is a method, else a field."
abbrev pub by_side : ℕ → Span → List ℕ → Option ℕ → Line
by_side by raw left None = field_at by raw left
by_side by raw left (Some i) = method_at by raw left

-- "Member: same split", else 5
abbrev pub member_by : ℕ → List ℕ → Option Sides → Line
member_by by s None = Refused refusal.Member
member_by by s (Some r) = by_side (by + r.left.start) (shift by r.right) (part_of s r.left) (first_where (starts 0x28) (part_of s r.left))

abbrev pub member_at : ℕ → List ℕ → Line
member_at by s = member_by by s (arrow_of s)

-- "The trimmed line decides: empty is blank; first character `#` is a comment; otherwise a line whose first character is not white space
-- is a class line, else a member line."
abbrev pub line_in : List ℕ → Span → Line
line_in s part =
    pick (is_empty part) Blank
    (pick (starts 0x23 (part_of s part)) (comment_at part.start (part_of s part))
    (pick (starts_white s) (member_at part.start (part_of s part)) (class_at part.start (part_of s part))))

abbrev pub line_of : List ℕ → Line
line_of s = line_in s (trim_both s)
