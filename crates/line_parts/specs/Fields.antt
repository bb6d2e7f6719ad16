-- Document 01 "Text and lines": "A field splits at its last white space character (none: 7)."
use Rattle.std.specs.Prelude.{List, ℕ, take, drop, Option, Some, None}
use Rattle.text_white.specs.Trim.{trim_both, last_white}
use Rattle.text_places.specs.Spans.{shift}
use Rattle.line_parts.specs.declared.field.Field.{Field}
use Rattle.text_places.specs.declared.spans.Span.{Span}

abbrev pub type_and_name : Span → Span → Field
type_and_name declared name = record { declared = declared; name = name }

-- type and name, trimmed
abbrev pub field_split : List ℕ → Option ℕ → Option Field
field_split left None = None
field_split left (Some i) = Some (type_and_name (trim_both (take i left)) (shift i (trim_both (drop i left))))

abbrev pub field_of : List ℕ → Option Field
field_of left = field_split left (last_white left)
