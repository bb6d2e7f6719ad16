-- Each enum of an answer as numbers: which case it is, then what that holds; what a case does not hold is 0.
use Rattle.std.specs.Prelude.{List, [], ◌∷◌, ℕ, Option, Some, None, Result, Ok, Err}
use Rattle.json_comment.specs.declared.answer.Stands.{Stands}
use Rattle.json_comment.specs.declared.answer.Stands.TheVariants.{Missing, Other, Text}
use Rattle.json_comment.specs.declared.answer.Comment.{Comment}
use Rattle.json_decode.specs.declared.write.WriteError.{WriteError}
use Rattle.json_decode.specs.declared.write.WriteError.TheVariants.{NoRoom, NoString}

-- what stands under a name: which case it is, and the place of a string's first char
abbrev pub stands_kind : Stands → ℕ
stands_kind Missing = 0
stands_kind Other = 1
stands_kind (Text at) = 2

abbrev pub stands_place : Stands → ℕ
stands_place Missing = 0
stands_place Other = 0
stands_place (Text at) = at

abbrev pub comment_answer_numbers : Option Comment → List ℕ
comment_answer_numbers None = 0 ∷ 0 ∷ 0 ∷ 0 ∷ 0 ∷ []
comment_answer_numbers (Some r) =
    1 ∷ stands_kind r.id ∷ stands_place r.id ∷ stands_kind r.signature ∷ stands_place r.signature ∷ []

abbrev pub decoded_numbers : Option ℕ → List ℕ
decoded_numbers (Some n) = 1 ∷ n ∷ []
decoded_numbers None = 0 ∷ 0 ∷ []

abbrev pub written_numbers : Result ℕ WriteError → List ℕ
written_numbers (Ok «end») = 1 ∷ «end» ∷ []
written_numbers (Err NoRoom) = 2 ∷ 0 ∷ []
written_numbers (Err NoString) = 0 ∷ 0 ∷ []
