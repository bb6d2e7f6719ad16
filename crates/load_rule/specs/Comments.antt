-- Document 01 "Comments": the signature that a comment gives.
use Rattle.std.specs.Prelude.{Bool, false, List, [], ◌∷◌, ℕ, drop, Option, Some, None}
use Rattle.ground.specs.Choice.{pick}
use Rattle.text_white.specs.Trim.{trim_both}
use Rattle.json_grammar.specs.Reader.{chars_from}
use Rattle.json_decode.specs.Decoded.{decoded}
use Rattle.json_comment.specs.declared.answer.Stands.{Stands}
use Rattle.json_comment.specs.declared.answer.Stands.TheVariants as stands
use Rattle.json_comment.specs.Answer.{comment_of, residual_of}
use Rattle.line.specs.declared.line.Line.{Line}
use Rattle.line.specs.declared.line.Line.TheVariants.{Blank, Comment, Class, Field, Method, Refused}
use Rattle.text_places.specs.Spans.{span, part_of}
use Rattle.line.specs.Kinds.{line_of}
use Rattle.ground.specs.Look.{Look, known, unknown, or_look}
use Rattle.json_comment.specs.declared.answer.Comment as comments

-- "`id` is compared with `com.android.tools.r8.residualsignature`"
abbrev pub says_residual : List ℕ → Stands → Bool
says_residual s stands.Missing = false
says_residual s stands.Other = false
says_residual s (stands.Text at) = residual_of (chars_from 0 (drop at s))

-- "a string `signature`", its bytes
abbrev pub string_at : List ℕ → Stands → Look
string_at s stands.Missing = unknown
string_at s stands.Other = unknown
string_at s (stands.Text at) = known (decoded (chars_from 0 (drop at s)))

-- "Everything else is idle."
abbrev pub signature_by : List ℕ → Option comments.Comment → Look
signature_by s None = unknown
signature_by s (Some r) = pick (says_residual s r.id) (string_at s r.signature) unknown

-- the signature that a JSON text gives
abbrev pub signature_of : List ℕ → Look
signature_of s = signature_by s (comment_of s)

-- "The JSON starts at the first `{` of the trimmed line."
abbrev pub json_of : List ℕ → ℕ → List ℕ
json_of l brace = part_of l (span brace (trim_both l).«end»)

abbrev pub signature_at : List ℕ → Option ℕ → Look
signature_at l None = unknown
signature_at l (Some brace) = signature_of (json_of l brace)

-- "then a string `signature` replaces the raw signature of the last member of the current class": what comments after a member, before any
-- other class line or member line, give; each replaces what one before it gave. `later` is what the lines after this one give.
abbrev pub residual_by : List ℕ → Line → Look → Look
residual_by l Blank later = later
residual_by l (Comment brace) later = or_look later (signature_at l brace)
residual_by l (Class display raw) later = unknown
residual_by l (Field declared name raw) later = unknown
residual_by l (Method method raw) later = unknown
residual_by l (Refused r) later = unknown

unfoldable pub residual_in : List (List ℕ) → Look
residual_in [] = unknown
residual_in (l ∷ ls) = residual_by l (line_of l) (residual_in ls)
