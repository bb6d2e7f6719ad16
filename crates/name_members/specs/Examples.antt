-- Worked examples of members looked up in tables, computed from the rules.
use Rattle.std.specs.Prelude.{◌≡◌, refl, [], ◌∷◌, ℕ, Some, None, Ok, Err}
use Rattle.ground.specs.Ascii.{ascii}
use Rattle.text_places.specs.Places.{same}
use Rattle.text_utf8.specs.Utf8.{lead_of, tails, after_lead, sequence_of, pieces_from, check_from}
use Rattle.table_rows.specs.Classes.{shown}
use Rattle.table_rows.specs.Tables.{Tables, tables}
use Rattle.tables.specs.declared.check.Used.{Used}
use Rattle.tables.specs.Check.{all_of, malformed}
use Rattle.tables.specs.Search.{last_row_from}
use Rattle.name_lines.specs.LineNames.{raw_line, display_line}
use Rattle.name_rule.specs.MemberNames.{Key, key, raw_of_row}
use Rattle.name_members.specs.declared.names.MemberName.{MemberName}
use Rattle.name_members.specs.declared.names.MemberLine.{MemberLine}
use Rattle.name_members.specs.MemberAnswers.{field_answer, method_answer, line_answer}

-- `x` is shown as `A`; it has a field `f` of the type `I`, shown as `g`, and a method `m` of the type `()`: shown as `o`, of the display
-- owner `A`, with the raw lines 1 to 9 as 10 to 12, and as `p`, of the display owner `B`, with the raw lines 1 to 9 as 20 to 28
abbrev lent : Tables
lent =
    tables ((0 ∷ 1 ∷ 1 ∷ 1 ∷ []) ∷ [])
    ((0 ∷ 0 ∷ 2 ∷ 1 ∷ 3 ∷ 1 ∷ 4 ∷ 1 ∷ 0 ∷ 0 ∷ 0 ∷ 0 ∷ 0 ∷ 0 ∷ 0 ∷ []) ∷
    (1 ∷ 0 ∷ 5 ∷ 1 ∷ 6 ∷ 2 ∷ 8 ∷ 1 ∷ 1 ∷ 1 ∷ 2 ∷ 1 ∷ 9 ∷ 10 ∷ 12 ∷ []) ∷
    (1 ∷ 0 ∷ 5 ∷ 1 ∷ 6 ∷ 2 ∷ 9 ∷ 1 ∷ 10 ∷ 1 ∷ 2 ∷ 1 ∷ 9 ∷ 20 ∷ 28 ∷ []) ∷ [])
    (ascii "xAfIgm()opB")

abbrev used : ℕ → ℕ → Used
used m p = record { classes = 1; members = m; pool = p }

abbrev run : Key
run = key (ascii "x") (ascii "m") (ascii "()")

-- a row and the place and length of its name, and a row and a display line
abbrev name_at : ℕ → ℕ → ℕ → MemberName
name_at i p n = record { row = i; place = p; length = n }

abbrev line_at : ℕ → ℕ → MemberLine
line_at i n = record { row = i; line = display_line n }

looked_up :
    (field_answer lent (used 3 11) (key (ascii "x") (ascii "f") (ascii "I")) ≡ Ok (Some (name_at 0 4 1)))
    × (field_answer lent (used 3 11) (key (ascii "A") (ascii "f") (ascii "I")) ≡ Ok None)
    × (field_answer lent (used 3 11) run ≡ Ok None)
    -- row 2 comes later, and row 1 is of the class's display
    × (method_answer lent (used 3 11) run ≡ Ok (Some (name_at 1 8 1)))
    × (line_answer lent (used 3 11) run (raw_line 9) ≡ Ok (Some (line_at 1 12)))
    × (line_answer lent (used 3 11) run (raw_line 10) ≡ Ok None)
    -- no method row is used
    × (method_answer lent (used 1 11) run ≡ Ok None)
    -- the owner of row 2 reaches past the ten bytes that are used, and more rows than three are not lent
    × (field_answer lent (used 3 10) (key (ascii "x") (ascii "f") (ascii "I")) ≡ Err malformed)
    × (method_answer lent (used 4 11) run ≡ Err malformed)
    × (line_answer lent (used 3 10) run (raw_line 9) ≡ Err malformed)
unfolding ascii same shown raw_of_row last_row_from all_of check_from pieces_from sequence_of after_lead lead_of tails
looked_up = (refl, refl, refl, refl, refl, refl, refl, refl, refl, refl)
