-- White space at the ends of a text and in it. On a text that is not UTF-8, a byte at which no good sequence stands is no white space.
use Rattle.std.specs.Prelude.{List, [], ◌∷◌, Bool, true, false, ℕ, suc, ◌+◌, eqb, drop, Option}
use Rattle.ground.specs.Choice.{pick, both}
use Rattle.text_utf8.specs.declared.sequence.Sequence.{Sequence}
use Rattle.text_utf8.specs.declared.sequence.Sequence.TheVariants.{End, Good, Bad}
use Rattle.text_places.specs.declared.spans.Span.{Span}
use Rattle.text_utf8.specs.Utf8.{sequence_of, pieces}
use Rattle.text_white.specs.White.{is_white}
use Rattle.text_places.specs.Places.{first_where, last_where}

-- the bytes of the characters at the head for which `p` holds
unfoldable pub run_of : (ℕ → Bool) → List Sequence → ℕ
run_of p [] = 0
run_of p (End ∷ ps) = 0
run_of p (Good code length ∷ ps) =
    let more = length + run_of p ps in
    pick (p code) more 0
run_of p (Bad length ∷ ps) = 0

-- where a text begins without the white space at its start
abbrev pub trim_start : List ℕ → ℕ
trim_start s = run_of is_white (pieces s)

-- where it begins without every leading U+FEFF
abbrev pub after_marks : List ℕ → ℕ
after_marks s = run_of (eqb 0xFEFF) (pieces s)

-- nothing but white space
unfoldable pub all_white : List Sequence → Bool
all_white [] = true
all_white (End ∷ ps) = false
all_white (Good code length ∷ ps) = both (is_white code) (all_white ps)
all_white (Bad length ∷ ps) = false

-- where a text ends without the white space at its end: the least place from which on there is nothing but white space
unfoldable pub trim_end : List ℕ → ℕ
trim_end [] = 0
trim_end (x ∷ s) =
    let later = suc (trim_end s) in
    pick (all_white (pieces (x ∷ s))) 0 later

-- where it begins and ends without both
abbrev pub trim_both : List ℕ → Span
trim_both s = record { start = trim_start s; «end» = trim_start s + trim_end (drop (trim_start s) s) }

-- a white space character stands at the head
abbrev pub white_sequence : Sequence → Bool
white_sequence End = false
white_sequence (Good code length) = is_white code
white_sequence (Bad length) = false

abbrev pub starts_white : List ℕ → Bool
starts_white s = white_sequence (sequence_of s)

-- the places of the first and the last white space character
abbrev pub first_white : List ℕ → Option ℕ
first_white s = first_where starts_white s

abbrev pub last_white : List ℕ → Option ℕ
last_white s = last_where starts_white s
