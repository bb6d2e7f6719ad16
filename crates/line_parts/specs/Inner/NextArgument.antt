-- What `next_argument` answers. That these are the arguments of the rule, one after the other, are the laws `arguments_split` and
-- `arguments_end`.
use Rattle.std.specs.Prelude.{List, [], ◌∷◌, ℕ, ◌+◌, length, drop, Option, Some, None}
use Rattle.ground.specs.Choice.{pick}
use Rattle.text_places.specs.Spans.{is_empty}
use Rattle.text_white.specs.Trim.{trim_both}
use Rattle.line_parts.specs.Arguments.{comma_parts}
use Rattle.line_parts.specs.declared.arguments.NextArgument.{NextArgument}

abbrev pub taken_argument : ℕ → ℕ → ℕ → NextArgument
taken_argument a e n = record { start = a; «end» = e; next = n }

-- the comma after a part, if others follow
abbrev pub gap : List (List ℕ) → ℕ
gap [] = 0
gap (p ∷ ps) = 1

-- the first of these parts that is not blank, by its place; the first part stands at the place `at`
unfoldable pub first_filled : ℕ → List (List ℕ) → Option NextArgument
first_filled at [] = None
first_filled at (p ∷ ps) =
    let after : ℕ = at + length p + gap ps in
    let later = first_filled after ps in
    pick (is_empty (trim_both p)) later (Some (taken_argument (at + (trim_both p).start) (at + (trim_both p).«end») after))

-- the first argument from the place `at` on
abbrev pub next_argument : List ℕ → ℕ → Option NextArgument
next_argument s at = first_filled at (comma_parts (drop at s))
