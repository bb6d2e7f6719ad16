-- The signatures that comments give, by places.
use Rattle.std.specs.Prelude.{◌≡◌, Bool, true, false, List, ℕ, length, take, drop, Option, Some, None}
use Rattle.text_places.specs.declared.spans.Span.{Span}
use Rattle.text_places.specs.Places.{first_where, starts}
use Rattle.text_white.specs.Trim.{trim_end}
use Rattle.json_grammar.specs.Reader.{chars_from}
use Rattle.json_decode.specs.Decoded.{decoded}
use Rattle.text_places.specs.Spans.{span, part_of, Lies}
use Rattle.ground.specs.Look.{Look, known, unknown}
use Rattle.load_rule.specs.Comments.{signature_of}
use Rattle.load_residual.specs.declared.residual.Residual.{Residual}

abbrev pub residual_string : ℕ → ℕ → ℕ → Residual
residual_string a e string = record { start = a; «end» = e; string = string }

-- the bytes of the string whose first char stands at a place
abbrev pub place_look : List ℕ → Option ℕ → Look
place_look s None = unknown
place_look s (Some p) = known (decoded (chars_from 0 (drop p s)))

-- the part that is JSON
abbrev pub json_part : Option Residual → Span
json_part (Some r) = span r.start r.«end»
json_part None = span 0 0

-- what stands there
abbrev pub residual_look : List ℕ → Option Residual → Look
residual_look s (Some r) = place_look (part_of s (span r.start r.«end»)) (Some r.string)
residual_look s None = unknown

-- whether there is one
abbrev pub is_given : Option Residual → Bool
is_given (Some r) = true
is_given None = false

-- `r` lies in the text `s`, and is the signature `o`, or none
pub record Gives (s : List ℕ) (r : Option Residual) (o : Look) : Type 0 where
  pub look : residual_look s r ≡ o
  pub lies : Lies (json_part r) (length s)

-- a signature counts where there is a member to give it to
abbrev pub heeded : Bool → Look → Look
heeded true o = o
heeded false o = unknown

-- the signature that a comment gives, by the place of its first `{`
abbrev pub braced_gives : List ℕ → Option ℕ → Look
braced_gives t None = unknown
braced_gives t (Some brace) = signature_of (drop brace t)

-- the signature that a comment gives, from its `#` to the end of its line
abbrev pub hash_gives : List ℕ → Look
hash_gives l = braced_gives (take (trim_end l) l) (first_where (starts 0x7B) (take (trim_end l) l))
