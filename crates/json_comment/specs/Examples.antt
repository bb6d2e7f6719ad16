-- Worked examples of the answer for a comment, computed from the rule.
use Rattle.std.specs.Prelude.{◌≡◌, refl, Some, None}
use Rattle.ground.specs.Ascii.{ascii}
use Rattle.text_places.specs.Places.{same}
use Rattle.json_grammar.specs.Encode.{utf8}
use Rattle.json_grammar.specs.Reader.{and_then, past_all, structural, digits, optional, int, past, json_number, hex4, second, unicode, short_escape, escape, piece_of, chars_from, string_of, past_word, flat_of, after_item, items_of, inside_of, enclosed_of, member_of, nested_of, value_of, members_of, last_of}
use Rattle.json_comment.specs.declared.answer.Stands.TheVariants.{Missing, Other, Text}
use Rattle.json_comment.specs.Answer.{comment_of, comment_with}

-- the text, what it is, and the answer
examples :
    -- no member
    (comment_of (ascii "{}") ≡ Some (comment_with Missing Missing))
    × (comment_of (ascii " {\t} ") ≡ Some (comment_with Missing Missing))
    -- a string, by the place of its first char
    × (comment_of (ascii "{\"id\":\"x\"}") ≡ Some (comment_with (Text 7) Missing))
    × (comment_of (ascii "{\"signature\":\"()V\",\"id\":1}") ≡ Some (comment_with Other (Text 14)))
    -- the last counts, whatever it is
    × (comment_of (ascii "{\"id\":\"x\",\"id\":[2]}") ≡ Some (comment_with Other Missing))
    × (comment_of (ascii "{\"id\":0,\"id\":\"y\"}") ≡ Some (comment_with (Text 14) Missing))
    -- names are compared after escapes
    × (comment_of (ascii "{\"\\u0069d\":\"x\"}") ≡ Some (comment_with (Text 12) Missing))
    -- a name inside is no name of the comment
    × (comment_of (ascii "{\"a\":{\"id\":\"x\"}}") ≡ Some (comment_with Missing Missing))
    -- a lone surrogate, a raw control character, text after the object, a comma too many
    × (comment_of (ascii "{\"a\":\"\\uD834\"}") ≡ None)
    × (comment_of (ascii "{\"a\":\"\t\"}") ≡ None)
    × (comment_of (ascii "{} x") ≡ None)
    × (comment_of (ascii "{\"a\":1,}") ≡ None)
    -- no object
    × (comment_of (ascii "") ≡ None)
    × (comment_of (ascii "[]") ≡ None)
unfolding ascii same utf8 last_of and_then past_all structural digits optional int past json_number hex4 second unicode short_escape escape piece_of chars_from string_of past_word flat_of after_item items_of inside_of enclosed_of member_of nested_of value_of members_of
examples = (refl, refl, refl, refl, refl, refl, refl, refl, refl, refl, refl, refl, refl, refl)
