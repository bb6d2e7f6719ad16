-- Each enum of an answer as numbers: which case it is, then what that holds; what a case does not hold is 0.
use Rattle.std.specs.Prelude.{List, [], ◌∷◌, ℕ, Option, Some, None, Result, Ok, Err}
use Rattle.ground.specs.Choice.{bit}
use Rattle.text_utf8.specs.declared.sequence.Sequence.{Sequence}
use Rattle.text_utf8.specs.declared.sequence.Sequence.TheVariants.{End, Good, Bad}
use Rattle.text_places.specs.Places.{first_where, last_where, starts, starts_pair, place_number}
use Rattle.text_white.specs.Trim.{trim_start, trim_end, trim_both, after_marks, starts_white, first_white, last_white}
use Rattle.text_places.specs.declared.lines.NextLine.{NextLine}
use Rattle.text_utf8.specs.declared.check.Broken.{Broken}

abbrev pub sequence_numbers : Sequence → List ℕ
sequence_numbers End = 0 ∷ 0 ∷ 0 ∷ []
sequence_numbers (Good code length) = 1 ∷ code ∷ length ∷ []
sequence_numbers (Bad length) = 2 ∷ 0 ∷ length ∷ []

abbrev pub check_numbers : Result Unit Broken → List ℕ
check_numbers (Ok _) = 0 ∷ 0 ∷ 0 ∷ []
check_numbers (Err r) = 1 ∷ r.at ∷ r.length ∷ []

abbrev pub next_line_numbers : Option NextLine → List ℕ
next_line_numbers (Some r) = 1 ∷ r.start ∷ r.«end» ∷ r.next ∷ []
next_line_numbers None = 0 ∷ 0 ∷ 0 ∷ 0 ∷ []

-- all that the trims and the white space say of a text
abbrev pub trim_numbers : List ℕ → List ℕ
trim_numbers s =
    trim_start s ∷ trim_end s ∷ (trim_both s).start ∷ (trim_both s).«end» ∷ after_marks s
    ∷ bit (starts_white s) ∷ place_number (first_white s) ∷ place_number (last_white s) ∷ []

-- the first and the last place of a byte, and the first of two
abbrev pub byte_numbers : ℕ → ℕ → List ℕ → List ℕ
byte_numbers a b s =
    place_number (first_where (starts a) s) ∷ place_number (last_where (starts a) s) ∷ place_number (first_where (starts_pair a b) s) ∷ []
