-- Worked examples of members looked up, computed from the rules.
use Rattle.std.specs.Prelude.{◌≡◌, refl, List, [], ◌∷◌, ℕ, Some, None}
use Rattle.ground.specs.Ascii.{ascii}
use Rattle.ground.specs.Look.{known, unknown}
use Rattle.text_places.specs.Places.{same}
use Rattle.table_rows.specs.declared.rows.Ranges.TheVariants as ranges
use Rattle.table_rows.specs.Classes.{pair, shown}
use Rattle.load_rule.specs.Members.{MemberKind, field, method, Entry}
use Rattle.name_lines.specs.LineNames.{raw_line, display_line}
use Rattle.name_rule.specs.Mappings.{Mapping, mapping}
use Rattle.name_rule.specs.MemberNames.{key, raw_of_row, last_named, last_translated, field_name, method_name, line_of_method}

abbrev member : ℕ → List ℕ → List ℕ → List ℕ → MemberKind → Entry
member c r d n k = record { class = c; raw_name = r; descriptor = d; name = n; kind = k }

-- `x` is shown as `A` in row 0 and as `B` in row 2; `y` as `C` in row 1
abbrev mapped : Mapping
mapped =
    mapping (pair (ascii "x") (ascii "A") ∷ pair (ascii "y") (ascii "C") ∷ pair (ascii "x") (ascii "B") ∷ [])
    (member 0 (ascii "f") (ascii "I") (ascii "first") field ∷
    member 2 (ascii "f") (ascii "I") (ascii "second") field ∷
    member 1 (ascii "f") (ascii "I") (ascii "other") field ∷
    member 0 (ascii "m") (ascii "()V") (ascii "own") (method (ascii "B") (ranges.Both 1 9 10 12)) ∷
    member 0 (ascii "m") (ascii "()V") (ascii "late") (method (ascii "B") (ranges.Both 5 9 50 54)) ∷
    member 2 (ascii "m") (ascii "()V") (ascii "inlined") (method (ascii "A") (ranges.Both 1 9 70 79)) ∷
    member 1 (ascii "m") (ascii "()V") (ascii "foreign") (method (ascii "D") ranges.None) ∷ [])

names :
    -- rows 0 and 2 belong together, and the last matching field answers
    (field_name mapped (key (ascii "x") (ascii "f") (ascii "I")) ≡ known (ascii "second"))
    × (field_name mapped (key (ascii "y") (ascii "f") (ascii "I")) ≡ known (ascii "other"))
    × (field_name mapped (key (ascii "x") (ascii "f") (ascii "J")) ≡ unknown)
    × (field_name mapped (key (ascii "x") (ascii "m") (ascii "()V")) ≡ unknown)
    -- the last owner match, by the display of the last row with that raw, is preferred to the last match
    × (method_name mapped (key (ascii "x") (ascii "m") (ascii "()V")) ≡ known (ascii "late"))
    × (method_name mapped (key (ascii "y") (ascii "m") (ascii "()V")) ≡ known (ascii "foreign"))
    × (method_name mapped (key (ascii "z") (ascii "m") (ascii "()V")) ≡ unknown)
    -- a line: the last owner match that holds it
    × (line_of_method mapped (key (ascii "x") (ascii "m") (ascii "()V")) (raw_line 4) ≡ Some (display_line 12))
    × (line_of_method mapped (key (ascii "x") (ascii "m") (ascii "()V")) (raw_line 5) ≡ Some (display_line 50))
    × (line_of_method mapped (key (ascii "x") (ascii "m") (ascii "()V")) (raw_line 10) ≡ None)
    × (line_of_method mapped (key (ascii "y") (ascii "m") (ascii "()V")) (raw_line 1) ≡ None)
unfolding ascii same shown raw_of_row last_named last_translated
names = (refl, refl, refl, refl, refl, refl, refl, refl, refl, refl, refl)
