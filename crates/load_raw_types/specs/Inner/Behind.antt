-- Where raw types are written: behind the descriptors of all classes, with an index of these at hand.
use Rattle.std.specs.Prelude.{List, [], ℕ, ◌+◌, ◌≤◌, ◌<◌, length, get_or}
use Rattle.table_rows.specs.Rows.{unpack_class}
use Rattle.tables.specs.declared.search.Side.TheVariants.{Display}
use Rattle.table_index.specs.Inner.Index.{IndexBy}

-- the first `at` bytes of the pool hold the descriptors of all class rows
pub record Below (rows : List (List ℕ)) (pool : List ℕ) (at : ℕ) : Type 0 where
  pub room : at ≤ length pool
  pub raw_below : (i : ℕ) → i < length rows →
      (unpack_class (get_or rows i [])).raw.place + (unpack_class (get_or rows i [])).raw.length ≤ at
  pub display_below : (i : ℕ) → i < length rows →
      (unpack_class (get_or rows i [])).display.place + (unpack_class (get_or rows i [])).display.length ≤ at

-- and the index finds rows by their display descriptors
pub record Indexed (rows : List (List ℕ)) (pool index : List ℕ) (at : ℕ) : Type 0 where
  pub below : Below rows pool at
  pub finds : IndexBy Display rows pool index
