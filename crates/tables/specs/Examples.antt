-- Worked examples of rows, computed from the rules.
use Rattle.std.specs.Prelude.{◌≡◌, refl, Bool, true, false, List, [], ◌∷◌, ℕ, Some, None}
use Rattle.ground.specs.Ascii.{ascii}
use Rattle.text_places.specs.Places.{same}
use Rattle.text_utf8.specs.Utf8.{lead_of, tails, after_lead, sequence_of, pieces_from, check_from}
use Rattle.tables.specs.declared.check.Used.{Used}
use Rattle.tables.specs.Search.{last_row_from, last_raw, last_display}
use Rattle.tables.specs.Check.{all_of, counts_fine, well_formed}

-- three classes: `x` shown as `y`, `x` shown as `z`, and one whose raw text, `w`, reaches past the pool's end
abbrev pool : List ℕ
pool = ascii "xyxzw"

abbrev rows : List (List ℕ)
rows = (0 ∷ 1 ∷ 1 ∷ 1 ∷ []) ∷ (2 ∷ 1 ∷ 3 ∷ 1 ∷ []) ∷ (4 ∷ 9 ∷ 9 ∷ 1 ∷ []) ∷ []

last_rows :
    -- the last row answers
    (last_raw rows pool (ascii "x") ≡ Some 1)
    × (last_display rows pool (ascii "y") ≡ Some 0)
    × (last_display rows pool (ascii "z") ≡ Some 1)
    -- by all of its text, and by the side asked for
    × (last_raw rows pool (ascii "xy") ≡ None)
    × (last_raw rows pool (ascii "z") ≡ None)
    -- past the pool's end there is nothing
    × (last_raw rows pool (ascii "w") ≡ Some 2)
    × (last_display rows pool [] ≡ Some 2)
unfolding ascii same last_row_from
last_rows = (refl, refl, refl, refl, refl, refl, refl)

abbrev used : ℕ → ℕ → ℕ → Used
used c m p = record { classes = c; members = m; pool = p }

-- a method row of a class: its kind, class row and range flag, the place and length of its display owner; its other texts are `x`
abbrev method : ℕ → ℕ → ℕ → ℕ → ℕ → List ℕ
method kind class flag place length = kind ∷ class ∷ 0 ∷ 1 ∷ 0 ∷ 1 ∷ 0 ∷ 1 ∷ place ∷ length ∷ flag ∷ 1 ∷ 3 ∷ 10 ∷ 12 ∷ []

-- one such row, with two class rows and four bytes used
abbrev with : List ℕ → Bool
with row = well_formed rows (row ∷ []) pool (used 2 1 4)

formed :
    -- the third class row reaches past the pool, and is not used
    (with (method 1 1 2 0 2) ≡ true)
    × (well_formed rows [] pool (used 3 0 4) ≡ false)
    -- a text may end where the used pool ends, and no later, though more is lent
    × (with (method 1 1 2 2 2) ≡ true)
    × (with (method 1 1 2 2 3) ≡ false)
    × (with (method 1 1 2 5 0) ≡ false)
    -- class row, kind and flag
    × (with (method 1 2 2 0 2) ≡ false)
    × (with (method 2 1 2 0 2) ≡ false)
    × (with (method 1 1 3 0 2) ≡ false)
    -- counts above what is lent
    × (well_formed rows [] pool (used 2 1 4) ≡ false)
    × (well_formed rows [] pool (used 2 0 6) ≡ false)
    × (counts_fine 5000 0 0 (used 4096 0 0) ≡ true)
    × (counts_fine 5000 0 0 (used 4097 0 0) ≡ false)
    -- C0 is not UTF-8: named by a row, and named by none
    × (well_formed ((0 ∷ 1 ∷ 1 ∷ 1 ∷ []) ∷ []) [] (0x78 ∷ 0xC0 ∷ []) (used 1 0 2) ≡ false)
    × (well_formed ((0 ∷ 1 ∷ 0 ∷ 1 ∷ []) ∷ []) [] (0x78 ∷ 0xC0 ∷ []) (used 1 0 2) ≡ true)
unfolding ascii all_of check_from pieces_from sequence_of after_lead lead_of tails
formed = (refl, refl, refl, refl, refl, refl, refl, refl, refl, refl, refl, refl, refl, refl)
