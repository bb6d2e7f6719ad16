-- Rows of one mark. The first of them is their head, and stands for all of them.
use Rattle.std.specs.Prelude.{List, ℕ, zero, suc, ◌-◌, eqb, ltb, get_or}
use Rattle.ground.specs.Choice.{pick}

-- the first of two numbers that is not 0
abbrev pub or_number : ℕ → ℕ → ℕ
or_number zero b = b
or_number (suc a) b = suc a

-- the number of the first row below `k` with the mark `m`, where `ms` are the marks of all rows: its place and one more, or 0
unfoldable pub first_with : List ℕ → ℕ → ℕ → ℕ
first_with ms m zero = 0
first_with ms m (suc k) = or_number (first_with ms m k) (pick (eqb (get_or ms k 0) m) (suc k) 0)

-- the first row with the mark of the row `r`
unfoldable pub head_of : List ℕ → ℕ → ℕ
head_of ms r = first_with ms (get_or ms r 0) (suc r) - 1

-- how many of the rows below `k` have the head `f`
unfoldable pub count_with : List ℕ → ℕ → ℕ → ℕ
count_with ms f zero = 0
count_with ms f (suc k) = let less = count_with ms f k in pick (eqb (head_of ms k) f) (suc less) less

-- and how many a head below `f`
unfoldable pub count_below : List ℕ → ℕ → ℕ → ℕ
count_below ms f zero = 0
count_below ms f (suc k) = let less = count_below ms f k in pick (ltb (head_of ms k) f) (suc less) less
