-- Worked examples of lines, computed from the rules.
use Rattle.std.specs.Prelude.{◌≡◌, refl, Some, None}
use Rattle.table_rows.specs.declared.rows.Ranges.TheVariants as ranges
use Rattle.name_lines.specs.LineNames.{raw_line, display_line, line_name}

-- the raw range of document 01's example is (1,3), its display range (10,12)
lines_shown :
    (line_name (ranges.Both 1 3 10 12) (raw_line 1) ≡ Some (display_line 10))
    × (line_name (ranges.Both 1 3 10 12) (raw_line 3) ≡ Some (display_line 12))
    × (line_name (ranges.Both 1 3 10 12) (raw_line 0) ≡ None)
    × (line_name (ranges.Both 1 3 10 12) (raw_line 4) ≡ None)
    -- a display range shorter than the raw one, and one that ends before it starts
    × (line_name (ranges.Both 1 9 10 12) (raw_line 9) ≡ Some (display_line 12))
    × (line_name (ranges.Both 1 9 10 5) (raw_line 9) ≡ Some (display_line 10))
    -- the last line there can be
    × (line_name (ranges.Both 0 4294967295 4294967295 4294967295) (raw_line 4294967295) ≡ Some (display_line 4294967295))
    -- an empty raw range holds no line
    × (line_name (ranges.Both 5 4 10 12) (raw_line 5) ≡ None)
    -- no raw range
    × (line_name (ranges.Display 10 12) (raw_line 10) ≡ None)
    × (line_name ranges.None (raw_line 0) ≡ None)
lines_shown = (refl, refl, refl, refl, refl, refl, refl, refl, refl, refl)
