-- Document 01 "Text and lines", of a method without its raw range and its return type.
use Rattle.std.specs.Prelude.{List, ℕ, ◌+◌, ltb, length, take, drop, Option, Some, None}
use Rattle.ground.specs.Choice.{pick}
use Rattle.text_places.specs.Places.{first_where, last_where, starts}
use Rattle.text_white.specs.Trim.{trim_both}
use Rattle.number.specs.Ranges.{trailing_range}
use Rattle.line_parts.specs.declared.signature.Qualified.{Qualified}
use Rattle.line_parts.specs.declared.signature.Qualified.TheVariants.{Owned, Plain}
use Rattle.text_places.specs.declared.spans.Span.{Span}
use Rattle.text_places.specs.Spans.{span, part_of, Lies}
use Rattle.number.specs.declared.range.TrailingRange.{TrailingRange}
use Rattle.line_parts.specs.declared.signature.Signature.{Signature}

abbrev pub signature_with : Qualified → Span → Option TrailingRange → Signature
signature_with named arguments lines = record { named = named; arguments = arguments; lines = lines }

-- "Before `(`: owner and name split at the last dot; no dot, the owner is this class line's display."
abbrev pub qualified_at : List ℕ → Option ℕ → Qualified
qualified_at s None = Plain (span 0 (length s))
qualified_at s (Some dot) = Owned (span 0 dot) (span (dot + 1) (length s))

abbrev pub qualified_of : List ℕ → Qualified
qualified_of s = qualified_at s (last_where (starts 0x2E) s)

-- a method's name, without its owner
abbrev pub name_span : Qualified → Span
name_span (Owned owner name) = name
name_span (Plain name) = name

-- "After `)`, trimmed": the display range
abbrev pub lines_after : List ℕ → Option TrailingRange
lines_after s = trailing_range (part_of s (trim_both s))

-- "Its first `(` and last `)` must stand in that order, else 6."
abbrev pub method_signature_at : List ℕ → Option ℕ → Option ℕ → Option Signature
method_signature_at s None close = None
method_signature_at s (Some opened) None = None
method_signature_at s (Some opened) (Some close) =
    pick (ltb close opened) None (Some (signature_with (qualified_of (take opened s)) (span (opened + 1) close) (lines_after (drop (close + 1) s))))

abbrev pub method_signature : List ℕ → Option Signature
method_signature s = method_signature_at s (first_where (starts 0x28) s) (last_where (starts 0x29) s)

-- a name and its owner lie in the first `n` bytes: no rule cites it, contracts and the laws "parts of a line lie in it" do
abbrev pub NameIn : Qualified → ℕ → Type 0
NameIn (Owned owner name) n = Lies owner n × Lies name n
NameIn (Plain name) n = Lies name n
