-- The steps of reading a comment: what one member gives for a name, what stands last with it, and the answer at the end.
use Rattle.std.specs.Prelude.{List, [], ◌∷◌, ℕ, ◌+◌, eqb, drop, Option, Some, None}
use Rattle.ground.specs.Choice.{pick}
use Rattle.json_grammar.specs.Reader.{chars_from}
use Rattle.json_decode.specs.Decoded.{decoded_is}
use Rattle.json_comment.specs.declared.answer.Stands.{Stands}
use Rattle.json_comment.specs.declared.answer.Stands.TheVariants.{Missing, Other, Text}
use Rattle.json_comment.specs.declared.answer.Comment.{Comment}
use Rattle.json_comment.specs.Answer.{comment_with}

-- a value by the text from the place `at` on
abbrev pub head_stands : ℕ → List ℕ → Stands
head_stands at [] = Other
head_stands at (x ∷ l) = pick (eqb x 0x22) (Text (at + 1)) Other

-- what the member whose name is the string at `key`, and whose value stands at `value`, gives for a name
abbrev pub given_for : List ℕ → ℕ → List ℕ → ℕ → Stands
given_for s key name value = pick (decoded_is name (chars_from 0 (drop key s))) (head_stands value (drop value s)) Missing

-- what stands last: what is given later, or what stood before where that is nothing
abbrev pub later_counts : Stands → Stands → Stands
later_counts Missing before = before
later_counts Other before = Other
later_counts (Text at) before = Text at

-- the answer where this text is left after the object
abbrev pub end_of : List ℕ → Stands → Stands → Option Comment
end_of [] id signature = Some (comment_with id signature)
end_of (x ∷ l) id signature = None
