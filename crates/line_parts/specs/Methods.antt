-- Document 01 "Text and lines": methods.
use Rattle.std.specs.Prelude.{false, List, ℕ, ◌+◌, drop, Option, Some, None}
use Rattle.text_places.specs.declared.spans.Span.{Span}
use Rattle.text_white.specs.Trim.{trim_both, first_white}
use Rattle.number.specs.Ranges.{leading_range}
use Rattle.line_parts.specs.declared.signature.Qualified.{Qualified}
use Rattle.line_parts.specs.declared.signature.Qualified.TheVariants.{Owned, Plain}
use Rattle.line_parts.specs.declared.method.Method.{Method}
use Rattle.text_places.specs.Spans.{span, shift, part_of, Lies}
use Rattle.line_parts.specs.Signatures.{NameIn, method_signature}
use Rattle.number.specs.declared.range.LeadingRange.{LeadingRange}
use Rattle.number.specs.declared.range.TrailingRange.{TrailingRange}
use Rattle.line_parts.specs.declared.method.LineRange.{LineRange}
use Rattle.line_parts.specs.declared.signature.Signature.{Signature}

abbrev pub from_to : ℕ → ℕ → LineRange
from_to a b = record { start = a; «end» = b }

abbrev pub shift_name : ℕ → Qualified → Qualified
shift_name by (Owned owner name) = Owned (shift by owner) (shift by name)
shift_name by (Plain name) = Plain (shift by name)

abbrev pub shift_method : ℕ → Method → Method
shift_method by m =
    record {
      returned = shift by m.returned;
      named = shift_name by m.named;
      arguments = shift by m.arguments;
      raw = m.raw;
      display = m.display;
      short = m.short;
    }

-- "No such range: the display range is the raw range."
abbrev pub settled_of : Span → Qualified → Span → Option LineRange → Option TrailingRange → Method
settled_of returned named arguments raw (Some r) =
    record { returned = returned; named = named; arguments = arguments; raw = raw; display = Some (from_to r.start r.«end»); short = r.second_unread }
settled_of returned named arguments raw None =
    record { returned = returned; named = named; arguments = arguments; raw = raw; display = raw; short = false }

-- the signature stands in what starts at the place `by`
abbrev pub with_signature : Span → ℕ → Option LineRange → Option Signature → Option Method
with_signature returned by raw None = None
with_signature returned by raw (Some r) =
    Some (settled_of returned (shift_name by r.named) (shift by r.arguments) raw r.lines)

-- "Return type ends at the first white space (none: 6); the rest is trimmed."
abbrev pub type_at : List ℕ → ℕ → Option LineRange → Option ℕ → Option Method
type_at left rest raw None = None
type_at left rest raw (Some white) =
    let after : List ℕ = drop (rest + white) left in
    with_signature (span rest (rest + white)) (rest + white + (trim_both after).start) raw (method_signature (part_of after (trim_both after)))

abbrev pub method_from : List ℕ → ℕ → Option LineRange → Option Method
method_from left rest raw = type_at left rest raw (first_white (drop rest left))

-- "If the text before the first colon and that between the first and second both read as numbers, they are the raw range and go."
abbrev pub method_after : List ℕ → Option LeadingRange → Option Method
method_after left (Some r) = method_from left r.rest (Some (from_to r.start r.«end»))
method_after left None = method_from left 0 None

abbrev pub method_of : List ℕ → Option Method
method_of left = method_after left (leading_range left)

-- all parts lie in the first `n` bytes: no rule cites it, contracts and the laws "parts of a line lie in it" do
abbrev pub MethodIn : Method → ℕ → Type 0
MethodIn m n = Lies m.returned n × NameIn m.named n × Lies m.arguments n
