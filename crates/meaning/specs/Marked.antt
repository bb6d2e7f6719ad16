-- Document 01, "Marked examples": all twelve marked P, as rows of one table. Each row asks one of the written rules and states its answer.
use Rattle.std.specs.Prelude.{◌≡◌, true, false, List, [], ◌∷◌, ◌++◌, ℕ, take, Option, Some, None}
use Rattle.ground.specs.Ascii.{ascii}
use Rattle.ground.specs.Look.{known, unknown}
use Rattle.number.specs.Numbers.{number_of}
use Rattle.number.specs.Ranges.{trailing_range, trailing_taken}
use Rattle.descriptor.specs.Types.{type_descriptor}
use Rattle.table_rows.specs.Classes.{Pair, shown}
use Rattle.table_rows.specs.declared.rows.Ranges.{Ranges}
use Rattle.table_rows.specs.declared.rows.Ranges.TheVariants.{Both}
use Rattle.name_lines.specs.LineNames.{raw_line, display_line, line_name}
use Rattle.load_rule.specs.Classes.{classes_of}
use Rattle.load_rule.specs.Loading.{Lent, answer_of, lines_parse, load_numbers}
use Rattle.apply_rule.specs.Changes.{shown_descriptor}
use Rattle.number.specs.declared.range.TrailingRange.{TrailingRange}

-- document 01's example, five lines, the last one blank
abbrev pub example : List ℕ
example =
    ascii "a.Main -> x:\n" ++
    (ascii "    int n -> b\n" ++
    (ascii "    1:3:void run(a.Main):10:12 -> c\n" ++
    (ascii "# {\"id\":\"com.android.tools.r8.residualsignature\",\"signature\":\"(Lx;)V\"}\n" ++ ascii "\n")))

-- the classes that it loads
abbrev pub main : List Pair
main = classes_of (lines_parse example)

-- a rule that is asked, on what, and its answer
pub data Row : Type 0 where
  number : List ℕ → Option ℕ → Row
  range_after : List ℕ → Option TrailingRange → Row
  -- a raw descriptor as it is shown, and one that stays
  shows : List ℕ → List ℕ → Row
  stays : List ℕ → Row
  -- a type's descriptor
  typed : List ℕ → List ℕ → Row
  -- a line of a method with these ranges, and its display line
  translates : Ranges → ℕ → ℕ → Row
  -- a text that is refused, whatever is lent: number and line
  refused : List ℕ → ℕ → ℕ → Row

-- the rule gives that answer
abbrev pub Holds : Row → Type 0
Holds (number s answer) = number_of s ≡ answer
Holds (range_after s answer) = trailing_range s ≡ answer
Holds (shows d answer) = shown_descriptor (shown main) d ≡ known answer
Holds (stays d) = shown_descriptor (shown main) d ≡ unknown
Holds (typed s answer) = type_descriptor s ≡ answer
Holds (translates g n answer) = line_name g (raw_line n) ≡ Some (display_line answer)
Holds (refused s answer line) = (n : Lent) → take 2 (load_numbers (answer_of s (lines_parse s) n)) ≡ answer ∷ line ∷ []

abbrev pub AllHold : List Row → Type 0
AllHold [] = Unit {0}
AllHold (row ∷ rows) = Holds row × AllHold rows

abbrev pub marked : List Row
marked =
    -- "P empty text: 8. P `a -> b`: 3 at line 1. P ` int n -> b`: 4 at line 1."
    refused [] 8 0 ∷
    refused (ascii "a -> b") 3 1 ∷
    refused (ascii " int n -> b") 4 1 ∷
    -- "P `:10` and P `:10:x` give (10,10), the second short"
    range_after (ascii ":10") (Some (trailing_taken 10 10 false)) ∷
    range_after (ascii ":10:x") (Some (trailing_taken 10 10 true)) ∷
    -- "P `+7` is 7; P 4294967296 does not read"
    number (ascii "+7") (Some 7) ∷
    number (ascii "4294967296") None ∷
    -- "P raw (1,9), display (10,12): 9 gives 12. P display (10,5): 9 gives 10."
    translates (Both 1 9 10 12) 9 12 ∷
    translates (Both 1 9 10 5) 9 10 ∷
    -- "P `[Lx;` shows `[La/Main;`; P `Lx` stays; P `int []` is `[Lint ;`"
    shows (ascii "[Lx;") (ascii "[La/Main;") ∷
    stays (ascii "Lx") ∷
    typed (ascii "int []") (ascii "[Lint ;") ∷ []
