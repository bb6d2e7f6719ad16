-- Worked examples, computed.
use Rattle.std.specs.Prelude.{◌≡◌, refl, true, List, [], ◌∷◌, ℕ}
use Rattle.ground.specs.Ascii.{ascii}
use Rattle.table_pool.specs.Names.{class_descriptor}
use Rattle.table_pool.specs.Inner.Named.{name_bytes}
use Rattle.table_index.specs.Inner.Order.{compared}
use Rattle.table_index.specs.Inner.Marks.{mark_from, mark_of}
use Rattle.table_index.specs.Inner.Heads.{first_with, head_of, count_with, count_below}
use Rattle.std.specs.declared.cmp.Ordering.TheVariants.{Less, Equal, Greater}

orders :
    (compared (ascii "ab") (ascii "ab0") ≡ Less)
    × (compared (ascii "ac") (ascii "ab9") ≡ Greater)
    × (compared (ascii "ac") (ascii "ac") ≡ Equal)
unfolding ascii compared
orders = (refl, refl, refl)

-- the marks of four rows: the third has that of the first
abbrev marks : List ℕ
marks = 5 ∷ 7 ∷ 5 ∷ 9 ∷ []

heads :
    -- a name, its dots as slashes, has the mark of its descriptor
    (mark_from 0 (name_bytes true (ascii "a.Main")) ≡ mark_of (class_descriptor (ascii "a.Main")))
    -- the first row with a mark is found by its number
    × (first_with marks 5 4 ≡ 1)
    × (first_with marks 9 4 ≡ 4)
    × (first_with marks 9 3 ≡ 0)
    × (head_of marks 2 ≡ 0)
    × (head_of marks 3 ≡ 3)
    -- two rows stand on the first shelf, none on that of the third row, and three on shelves before that of the last
    × (count_with marks 0 4 ≡ 2)
    × (count_with marks 0 2 ≡ 1)
    × (count_with marks 2 4 ≡ 0)
    × (count_below marks 1 4 ≡ 2)
    × (count_below marks 3 4 ≡ 3)
unfolding ascii mark_from mark_of first_with head_of count_with count_below
heads = (refl, refl, refl, refl, refl, refl, refl, refl, refl, refl, refl)
