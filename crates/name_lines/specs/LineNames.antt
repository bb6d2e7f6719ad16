-- Document 01 "Rows and names": "Raw line and display line are two numberings".
use Rattle.std.specs.Prelude.{Bool, false, ℕ, ◌+◌, ◌-◌, min, Option, Some, None}
use Rattle.ground.specs.Choice.{pick, within}
use Rattle.table_rows.specs.declared.rows.Ranges.{Ranges}
use Rattle.table_rows.specs.declared.rows.Ranges.TheVariants as ranges
use Rattle.name_lines.specs.declared.lines.RawLine.{RawLine}
use Rattle.name_lines.specs.declared.lines.DisplayLine.{DisplayLine}

abbrev pub raw_line : ℕ → RawLine
raw_line n = record { 0 = n }

abbrev pub display_line : ℕ → DisplayLine
display_line n = record { 0 = n }

-- "whose raw range holds it": a method without a raw range holds no line
abbrev pub holds_line : Ranges → RawLine → Bool
holds_line ranges.None n = false
holds_line (ranges.Display a e) n = false
holds_line (ranges.Both p q a e) n = within p q n.0

-- "the display line is display start plus the lesser of (line - raw start) and (display end - display start, at least 0)"
abbrev pub line_shown : Ranges → RawLine → Option DisplayLine
line_shown ranges.None n = None
line_shown (ranges.Display a e) n = None
line_shown (ranges.Both p q a e) n = Some (display_line (a + min (n.0 - p) (e - a)))

-- a line that the raw range holds has a display line, and no other
abbrev pub line_name : Ranges → RawLine → Option DisplayLine
line_name g n = pick (holds_line g n) (line_shown g n) None
