-- Document 01 "Text and lines": "Class: ends with `:`, which goes; the first `->` splits; both sides, trimmed, are not empty. Member: same
-- split."
use Rattle.std.specs.Prelude.{List, ℕ, ◌+◌, ◌-◌, eqb, length, get_or, take, drop, Option, Some, None}
use Rattle.ground.specs.Choice.{pick}
use Rattle.text_places.specs.Places.{first_where, starts_pair}
use Rattle.text_places.specs.declared.spans.Span.{Span}
use Rattle.text_white.specs.Trim.{trim_both}
use Rattle.text_places.specs.Spans.{shift, is_empty}
use Rattle.line_parts.specs.declared.arrow.Sides.{Sides}

abbrev pub two_sides : Span → Span → Sides
two_sides l r = record { left = l; right = r }

-- "both sides .. are not empty"; the right one stands in what starts at the place `after`
abbrev pub sides_of : Span → ℕ → Span → Option Sides
sides_of left after right = pick (is_empty left) None (pick (is_empty right) None (Some (two_sides left (shift after right))))

-- "the first `->` splits; both sides, trimmed"
abbrev pub split_at : List ℕ → Option ℕ → Option Sides
split_at s None = None
split_at s (Some i) = sides_of (trim_both (take i s)) (i + 2) (trim_both (drop (i + 2) s))

abbrev pub arrow_of : List ℕ → Option Sides
arrow_of s = split_at s (first_where (starts_pair 0x2D 0x3E) s)

-- "ends with `:`, which goes"
abbrev pub class_sides : List ℕ → Option Sides
class_sides s = pick (eqb (get_or s (length s - 1) 0) 0x3A) (arrow_of (take (length s - 1) s)) None
