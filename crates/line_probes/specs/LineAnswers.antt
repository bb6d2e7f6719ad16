-- What a line is, as 20 numbers: which kind it is, then what that holds; a part is its start and its end, and what a kind does not hold
-- is 0.
use Rattle.std.specs.Prelude.{List, [], ◌∷◌, ℕ, Option, Some, None}
use Rattle.ground.specs.Choice.{bit}
use Rattle.text_places.specs.Places.{place_number}
use Rattle.text_places.specs.declared.spans.Span.{Span}
use Rattle.line_parts.specs.declared.signature.Qualified.{Qualified}
use Rattle.line_parts.specs.declared.signature.Qualified.TheVariants.{Owned, Plain}
use Rattle.line_parts.specs.declared.method.Method.{Method}
use Rattle.line.specs.declared.line.Line.{Line}
use Rattle.line.specs.declared.line.Line.TheVariants as lines
use Rattle.line.specs.Kinds.{refusal_number}
use Rattle.text_places.specs.Spans.{span}
use Rattle.line_parts.specs.Signatures.{name_span}
use Rattle.line_parts.specs.declared.arguments.NextArgument.{NextArgument}
use Rattle.line_parts.specs.declared.method.LineRange.{LineRange}

-- 1 for a name with an owner
abbrev pub owned : Qualified → ℕ
owned (Owned owner name) = 1
owned (Plain name) = 0

abbrev pub owner_span : Qualified → Span
owner_span (Owned owner name) = owner
owner_span (Plain name) = span 0 0

-- 1 for a range
abbrev pub lined : Option LineRange → ℕ
lined (Some r) = 1
lined None = 0

abbrev pub first_line : Option LineRange → ℕ
first_line (Some r) = r.start
first_line None = 0

abbrev pub last_line : Option LineRange → ℕ
last_line (Some r) = r.«end»
last_line None = 0

-- an answer of at most seven numbers
abbrev pub seven_numbers : ℕ → ℕ → ℕ → ℕ → ℕ → ℕ → ℕ → List ℕ
seven_numbers kind a b c d e f = kind ∷ a ∷ b ∷ c ∷ d ∷ e ∷ f ∷ 0 ∷ 0 ∷ 0 ∷ 0 ∷ 0 ∷ 0 ∷ 0 ∷ 0 ∷ 0 ∷ 0 ∷ 0 ∷ 0 ∷ 0 ∷ []

abbrev pub comment_line_numbers : Option ℕ → List ℕ
comment_line_numbers brace = seven_numbers 1 (place_number brace) 0 0 0 0 0

abbrev pub class_numbers : Span → Span → List ℕ
class_numbers display raw = seven_numbers 2 display.start display.«end» raw.start raw.«end» 0 0

abbrev pub field_numbers : Span → Span → Span → List ℕ
field_numbers declared name raw = seven_numbers 3 declared.start declared.«end» name.start name.«end» raw.start raw.«end»

-- return type, owner, name, arguments, raw name, raw range, display range, and whether that is short
abbrev pub method_numbers : Method → Span → List ℕ
method_numbers m raw =
    4 ∷ m.returned.start ∷ m.returned.«end»
    ∷ owned m.named ∷ (owner_span m.named).start ∷ (owner_span m.named).«end» ∷ (name_span m.named).start ∷ (name_span m.named).«end»
    ∷ m.arguments.start ∷ m.arguments.«end» ∷ raw.start ∷ raw.«end»
    ∷ lined m.raw ∷ first_line m.raw ∷ last_line m.raw
    ∷ lined m.display ∷ first_line m.display ∷ last_line m.display ∷ bit m.short ∷ 0 ∷ []

abbrev pub line_kind_numbers : Line → List ℕ
line_kind_numbers lines.Blank = seven_numbers 0 0 0 0 0 0 0
line_kind_numbers (lines.Comment brace) = comment_line_numbers brace
line_kind_numbers (lines.Class display raw) = class_numbers display raw
line_kind_numbers (lines.Field declared name raw) = field_numbers declared name raw
line_kind_numbers (lines.Method m raw) = method_numbers m raw
line_kind_numbers (lines.Refused r) = seven_numbers 5 (refusal_number r) 0 0 0 0 0

abbrev pub argument_numbers : Option NextArgument → List ℕ
argument_numbers (Some r) = 1 ∷ r.start ∷ r.«end» ∷ r.next ∷ []
argument_numbers None = 0 ∷ 0 ∷ 0 ∷ 0 ∷ []
