-- What class rows are looked for by.
use Rattle.std.specs.Prelude.{List, map, ℕ}
use Rattle.table_rows.specs.Rows.{unpack_class}
use Rattle.tables.specs.declared.search.Side.{Side}
use Rattle.tables.specs.Back.{text_in}
use Rattle.tables.specs.Search.{text_on}

-- the descriptor of each row, on one side
unfoldable pub keys_of : Side → List (List ℕ) → List ℕ → List (List ℕ)
keys_of side rows pool = map (λ row. text_in pool (text_on side (unpack_class row))) rows
