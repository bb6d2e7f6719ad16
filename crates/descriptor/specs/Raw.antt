-- Document 01 "Descriptors": "Without a residual signature, raw descriptors come from display types, each class piece turned to raw."
use Rattle.std.specs.Prelude.{List, ℕ}
use Rattle.table_rows.specs.Classes.{Pair, back}
use Rattle.descriptor.specs.Pieces.{turn}
use Rattle.descriptor.specs.Types.{type_descriptor}

-- the raw descriptor of a display type, over the classes of a mapping
abbrev pub raw_type_of : List Pair → List ℕ → List ℕ
raw_type_of cs t = turn (back cs) (type_descriptor t)
