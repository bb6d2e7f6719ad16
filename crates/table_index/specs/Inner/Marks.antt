-- A mark of each descriptor: descriptors of different marks differ.
use Rattle.std.specs.Prelude.{List, map, ℕ, ◌+◌, ◌*◌, ◌-◌, ◌/◌, ◌%◌, ltb, length, get_or}
use Rattle.ground.specs.Choice.{pick}
use Rattle.ground.specs.Put.{between}

-- how many marks there are
abbrev pub mark_count : ℕ
mark_count = 8192

-- four bytes as one number
abbrev pub four_at : List ℕ → ℕ → ℕ
four_at s at = get_or s at 0 + 256 * get_or s (at + 1) 0 + 65536 * (get_or s (at + 2) 0 + 256 * get_or s (at + 3) 0)

-- up to three bytes as one number
abbrev pub few_bytes : List ℕ → ℕ
few_bytes s = get_or s 0 0 + 256 * get_or s (length s / 2) 0 + 65536 * get_or s (length s - 1) 0

-- five numbers as one mark
abbrev pub mixed : ℕ → ℕ → ℕ → ℕ → ℕ → ℕ
mixed seed a b c d = (a * 375761393 + d * 291746501 + b * 426508747 + c * 331804471 + seed * 506832829) / 1048576 % mark_count

-- of four bytes and more: the first four and the last twelve, which may be the same
abbrev pub many_mark : ℕ → List ℕ → ℕ → ℕ → ℕ
many_mark seed s near last = mixed seed (four_at s 0) (four_at s near) (four_at s ((near + last) / 2)) (four_at s last)

-- the mark of a text behind what has the mark `h`
unfoldable pub mark_from : ℕ → List ℕ → ℕ
mark_from h s =
    pick (ltb (length s) 4) (mixed (h + length s % mark_count) (few_bytes s) 0 0 0)
    (many_mark (h + length s % mark_count) s (length s - 4 - 8) (length s - 4))

-- the first and the last byte of a descriptor do not count
unfoldable pub mark_of : List ℕ → ℕ
mark_of d = pick (ltb (length d) 2) 0 (mark_from 0 (between d 1 (length d - 1)))

-- the mark of each of a list of texts
unfoldable pub marks_of : List (List ℕ) → List ℕ
marks_of keys = map mark_of keys
