-- Ranges of line numbers: document 01 "Method".
use Rattle.std.specs.Prelude.{List, [], ◌∷◌, true, false, ℕ, ◌+◌, eqb, take, drop, Option, Some, None, Bool}
use Rattle.ground.specs.Choice.{pick}
use Rattle.text_places.specs.Places.{first_where, starts}
use Rattle.number.specs.Numbers.{number_of}
use Rattle.number.specs.declared.range.LeadingRange.{LeadingRange}
use Rattle.number.specs.declared.range.TrailingRange.{TrailingRange}

abbrev pub leading_taken : ℕ → ℕ → ℕ → LeadingRange
leading_taken a b rest = record { start = a; «end» = b; rest = rest }

abbrev pub trailing_taken : ℕ → ℕ → Bool → TrailingRange
trailing_taken a b unread = record { start = a; «end» = b; second_unread = unread }

-- the place of the first colon
abbrev pub first_colon : List ℕ → Option ℕ
first_colon s = first_where (starts 0x3A) s

-- "If the text before the first colon and that between the first and second both read as numbers, they are the raw range and go": what is
-- left starts at `rest`. A range that does not read is no range.
abbrev pub both_read : Option ℕ → Option ℕ → ℕ → Option LeadingRange
both_read (Some a) (Some b) rest = Some (leading_taken a b rest)
both_read (Some a) None rest = None
both_read None n rest = None

-- `s` is cut at its first colon, and `t` is what follows that
abbrev pub cut_twice : List ℕ → ℕ → Option ℕ → List ℕ → Option LeadingRange
cut_twice s first None t = None
cut_twice s first (Some width) t = both_read (number_of (take first s)) (number_of (take width t)) (first + 1 + width + 1)

abbrev pub cut_once : List ℕ → Option ℕ → Option LeadingRange
cut_once s None = None
cut_once s (Some first) = cut_twice s first (first_colon (drop (first + 1) s)) (drop (first + 1) s)

abbrev pub leading_range : List ℕ → Option LeadingRange
leading_range s = cut_once s (first_colon s)

-- a text up to its first colon, or all of it
abbrev pub up_to : List ℕ → Option ℕ → List ℕ
up_to s None = s
up_to s (Some i) = take i s

abbrev pub to_colon : List ℕ → List ℕ
to_colon s = up_to s (first_colon s)

-- "a second part that is missing .. equals the first"
abbrev pub one_number : Option ℕ → Option TrailingRange
one_number (Some a) = Some (trailing_taken a a false)
one_number None = None

-- ".. or does not read equals the first"
abbrev pub two_numbers : Option ℕ → Option ℕ → Option TrailingRange
two_numbers (Some a) (Some b) = Some (trailing_taken a b false)
two_numbers (Some a) None = Some (trailing_taken a a true)
two_numbers None n = None

abbrev pub after_colon : List ℕ → Option ℕ → Option TrailingRange
after_colon s None = one_number (number_of s)
after_colon s (Some i) = two_numbers (number_of (take i s)) (number_of (to_colon (drop (i + 1) s)))

-- "After `)`, trimmed: a colon, a number, and optionally a colon and a number make the display range". What follows a third colon is not
-- read.
abbrev pub trailing_range : List ℕ → Option TrailingRange
trailing_range [] = None
trailing_range (x ∷ s) = pick (eqb x 0x3A) (after_colon s (first_colon s)) None
