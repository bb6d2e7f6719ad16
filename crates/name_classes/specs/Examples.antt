-- Worked examples of class names, computed from the rules.
use Rattle.std.specs.Prelude.{◌≡◌, refl, [], ◌∷◌, ℕ, Some, None, Ok, Err}
use Rattle.ground.specs.Ascii.{ascii}
use Rattle.text_places.specs.Places.{same}
use Rattle.text_utf8.specs.Utf8.{lead_of, tails, after_lead, sequence_of, pieces_from, check_from}
use Rattle.table_rows.specs.Classes.{shown}
use Rattle.table_rows.specs.Rows.{text}
use Rattle.table_rows.specs.Tables.{Tables, tables}
use Rattle.tables.specs.declared.check.Used.{Used}
use Rattle.tables.specs.Check.{all_of, malformed}
use Rattle.tables.specs.Search.{last_row_from}
use Rattle.name_classes.specs.ClassNames.{display_of_class, raw_of_class, mapped_class}

-- `x` shown as `y`, then as `z`, then `w` shown as `y`
abbrev lent : Tables
lent = tables ((0 ∷ 1 ∷ 1 ∷ 1 ∷ []) ∷ (2 ∷ 1 ∷ 3 ∷ 1 ∷ []) ∷ (4 ∷ 1 ∷ 5 ∷ 1 ∷ []) ∷ []) [] (ascii "xyxzwy")

abbrev used : ℕ → ℕ → Used
used c p = record { classes = c; members = 0; pool = p }

looked_up :
    -- the last row answers, both ways
    (display_of_class lent (used 3 6) (ascii "x") ≡ Ok (Some (text 3 1)))
    × (raw_of_class lent (used 3 6) (ascii "y") ≡ Ok (Some (text 4 1)))
    × (mapped_class lent (used 3 6) (ascii "x") ≡ ascii "z")
    -- of the rows that are used
    × (display_of_class lent (used 1 6) (ascii "x") ≡ Ok (Some (text 1 1)))
    × (raw_of_class lent (used 2 6) (ascii "y") ≡ Ok (Some (text 0 1)))
    -- no row has it
    × (display_of_class lent (used 3 6) (ascii "z") ≡ Ok None)
    × (display_of_class lent (used 3 6) (ascii "xy") ≡ Ok None)
    × (mapped_class lent (used 3 6) (ascii "xy") ≡ ascii "xy")
    -- the third row reaches past the five bytes that are used
    × (display_of_class lent (used 3 5) (ascii "x") ≡ Err malformed)
    × (raw_of_class lent (used 4 6) (ascii "y") ≡ Err malformed)
    × (mapped_class lent (used 3 5) (ascii "x") ≡ ascii "x")
unfolding ascii same shown last_row_from all_of check_from pieces_from sequence_of after_lead lead_of tails
looked_up = (refl, refl, refl, refl, refl, refl, refl, refl, refl, refl, refl)
