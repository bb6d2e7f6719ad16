-- Each enum of an answer as numbers: which case it is, then what that holds; what a case does not hold is 0.
use Rattle.std.specs.Prelude.{List, [], ◌∷◌, ℕ, Option, Some, None}
use Rattle.ground.specs.Choice.{bit}
use Rattle.number.specs.declared.range.LeadingRange.{LeadingRange}
use Rattle.number.specs.declared.range.TrailingRange.{TrailingRange}

abbrev pub number_numbers : Option ℕ → List ℕ
number_numbers (Some v) = 1 ∷ v ∷ []
number_numbers None = 0 ∷ 0 ∷ []

abbrev pub leading_numbers : Option LeadingRange → List ℕ
leading_numbers (Some r) = 1 ∷ r.start ∷ r.«end» ∷ r.rest ∷ []
leading_numbers None = 0 ∷ 0 ∷ 0 ∷ 0 ∷ []

abbrev pub trailing_numbers : Option TrailingRange → List ℕ
trailing_numbers (Some r) = 1 ∷ r.start ∷ r.«end» ∷ bit r.second_unread ∷ []
trailing_numbers None = 0 ∷ 0 ∷ 0 ∷ 0 ∷ []
