-- Document 01 "Comments": what stands last under `id` and under `signature`, over the members that RFC 8259's reader gives.
use Rattle.std.specs.Prelude.{Bool, List, ℕ, ◌+◌, ◌-◌, length, Option, Some, None}
use Rattle.ground.specs.Ascii.{ascii}
use Rattle.json_grammar.specs.Grammar.{Meaning, text, other}
use Rattle.json_grammar.specs.Reader.{Out, got, bad, Item, members_of, Found, missing, found, last_of}
use Rattle.json_decode.specs.Decoded.{decoded_is}
use Rattle.json_comment.specs.declared.answer.Stands.{Stands}
use Rattle.json_comment.specs.declared.answer.Stands.TheVariants.{Missing, Other, Text}
use Rattle.json_comment.specs.declared.answer.Comment.{Comment}

abbrev pub comment_with : Stands → Stands → Comment
comment_with id signature = record { id = id; signature = signature }

-- a value that starts at the place `at`: a string's first char stands after its quotation mark
abbrev pub stands_as : Meaning → ℕ → Stands
stands_as (text v) at = Text (at + 1)
stands_as other at = Other

-- a member of the text `s`, if there is one; its value starts where the text from its value on starts
abbrev pub stands_in : List ℕ → Found → Stands
stands_in s missing = Missing
stands_in s (found i) = stands_as i.named.value (length s - length i.onward)

abbrev pub comment_answer : List ℕ → Out (List Item) → Option Comment
comment_answer s (got items r) = Some (comment_with (stands_in s (last_of (ascii "id") items)) (stands_in s (last_of (ascii "signature") items)))
comment_answer s bad = None

-- the answer for a comment
abbrev pub comment_of : List ℕ → Option Comment
comment_of s = comment_answer s (members_of s)

-- "`id` is compared with `com.android.tools.r8.residualsignature`"
abbrev pub residual_of : Out (List ℕ) → Bool
residual_of o = decoded_is (ascii "com.android.tools.r8.residualsignature") o
