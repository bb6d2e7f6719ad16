-- Document 01 "Rows and names": "The last class row with a given raw (or display) descriptor answers."
use Rattle.std.specs.Prelude.{Bool, List, [], ◌∷◌, ℕ, suc, Option, Some, None}
use Rattle.ground.specs.Choice.{pick}
use Rattle.text_places.specs.Places.{same}
use Rattle.table_rows.specs.declared.rows.Text.{Text}
use Rattle.table_rows.specs.declared.rows.Class.{Class}
use Rattle.tables.specs.declared.search.Side.{Side}
use Rattle.tables.specs.declared.search.Side.TheVariants.{Raw, Display}
use Rattle.table_rows.specs.Rows.{unpack_class}
use Rattle.tables.specs.Back.{text_in}

-- the first of two answers that is a row
abbrev pub or_row : Option ℕ → Option ℕ → Option ℕ
or_row (Some i) b = Some i
or_row None b = b

-- the last row of which `p` holds: a later one, else this one; rows count from `at`
unfoldable pub last_row_from : (List ℕ → Bool) → ℕ → List (List ℕ) → Option ℕ
last_row_from p at [] = None
last_row_from p at (row ∷ rows) = or_row (last_row_from p (suc at) rows) (pick (p row) (Some at) None)

abbrev pub text_on : Side → Class → Text
text_on Raw c = c.raw
text_on Display c = c.display

-- a class row has the descriptor `name` on that side; of a text that reaches past the pool's end, what stands in the pool counts
abbrev pub has_name : Side → List ℕ → List ℕ → List ℕ → Bool
has_name side pool name row = same (text_in pool (text_on side (unpack_class row))) name

abbrev pub last_with : Side → List (List ℕ) → List ℕ → List ℕ → Option ℕ
last_with side rows pool name = last_row_from (has_name side pool name) 0 rows

abbrev pub last_raw : List (List ℕ) → List ℕ → List ℕ → Option ℕ
last_raw rows pool name = last_with Raw rows pool name

abbrev pub last_display : List (List ℕ) → List ℕ → List ℕ → Option ℕ
last_display rows pool name = last_with Display rows pool name
