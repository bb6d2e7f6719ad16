-- `table_index::insert::insert_rows` meets its contract, by the laws of Filing.
use lib.ListN.{length}
use Rattle.table_index.specs.Inner.Keys.{keys_of}
use Rattle.table_index.specs.Inner.Marks.{marks_of}
use Rattle.table_index.specs.Inner.Index.{Shelved}
use Rattle.table_index.proofs.insert.insert_rows.Given as goal

abbrev pub invariant-loop-row : goal.invariant-loop-row
invariant-loop-row l = Shelved (length l.classes) (keys_of l.side l.classes l.pool) (marks_of (keys_of l.side l.classes l.pool)) l.index l.row
