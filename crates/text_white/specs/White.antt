-- White space: Unicode's property White_Space, as document 01 "Text and lines" lists it.
use Rattle.std.specs.Prelude.{List, [], ◌∷◌, Bool, true, false, ℕ, leb}
use Rattle.ground.specs.Choice.{either, both, within}

-- "White space is ten ranges": first and last code point of each, in order
unfoldable pub white_ranges : List ℕ
white_ranges =
    0x9 ∷ 0xD ∷ 0x20 ∷ 0x20 ∷ 0x85 ∷ 0x85 ∷ 0xA0 ∷ 0xA0 ∷ 0x1680 ∷ 0x1680 ∷
    0x2000 ∷ 0x200A ∷ 0x2028 ∷ 0x2029 ∷ 0x202F ∷ 0x202F ∷ 0x205F ∷ 0x205F ∷ 0x3000 ∷ 0x3000 ∷ []

-- a code point stands in one of the ranges
unfoldable pub in_ranges : List ℕ → ℕ → Bool
in_ranges [] code = false
in_ranges (low ∷ []) code = false
in_ranges (low ∷ (high ∷ ranges)) code = either (within low high code) (in_ranges ranges code)

unfoldable pub is_white : ℕ → Bool
is_white code = in_ranges white_ranges code

-- a table is in order, and starts at `low` or later: what lets a search stop early
unfoldable pub rising_from : ℕ → List ℕ → Bool
rising_from low [] = true
rising_from low (x ∷ table) = both (leb low x) (rising_from x table)

abbrev pub rising : List ℕ → Bool
rising table = rising_from 0 table
