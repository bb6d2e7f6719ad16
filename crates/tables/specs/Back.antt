-- Document 01 "Rows and names": the texts that rows name, read back from the pool.
use Rattle.std.specs.Prelude.{List, map, ℕ, take, drop}
use Rattle.table_rows.specs.Classes.{Pair}
use Rattle.table_rows.specs.declared.rows.Text.{Text}
use Rattle.table_rows.specs.Rows.{unpack_class}

-- a text of the pool
abbrev pub text_in : List ℕ → Text → List ℕ
text_in pool t = take t.length (drop t.place pool)

-- the descriptors of a class row
abbrev pub pair_of : List ℕ → List ℕ → Pair
pair_of pool row = record { raw = text_in pool (unpack_class row).raw; display = text_in pool (unpack_class row).display }

-- the classes of a mapping, in row order
abbrev pub read_back : List (List ℕ) → List ℕ → List Pair
read_back rows pool = map (pair_of pool) rows
