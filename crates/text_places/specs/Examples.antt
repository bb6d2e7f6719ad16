-- Small examples, computed from the rules.
use Rattle.std.specs.Prelude.{◌≡◌, refl, [], ◌∷◌, Some}
use Rattle.ground.specs.Ascii.{ascii}
use Rattle.text_places.specs.Places.{first_from, first_where, last_from, last_where, starts, starts_pair}
use Rattle.text_places.specs.Lines.{raw_lines, cr_end, lines}
use Rattle.text_places.specs.Inner.NextLine.{to_lf, next_line, taken_line}

some_lines : lines (ascii "a\r\r\n\nb\r") ≡ ascii "a" ∷ [] ∷ ascii "b" ∷ []
unfolding ascii raw_lines cr_end
some_lines = refl

no_further_line : lines (ascii "a\n") ≡ ascii "a" ∷ []
unfolding ascii raw_lines cr_end
no_further_line = refl

first_line_lem : next_line (ascii "a\r\r\n\nb") 0 ≡ Some (taken_line 0 1 4)
unfolding ascii to_lf cr_end
first_line_lem = refl

-- the arrow of a mapping line
arrow : first_where (starts_pair 0x2D 0x3E) (ascii "a-->") ≡ Some 2
unfolding ascii first_from
arrow = refl

-- the last dot of `a.b.c`
last_dot : last_where (starts 0x2E) (ascii "a.b.c") ≡ Some 3
unfolding ascii last_from
last_dot = refl
