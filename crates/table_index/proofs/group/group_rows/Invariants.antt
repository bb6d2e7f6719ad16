-- `table_index::group::group_rows` meets its contract, by the laws of Grouping.
use lib.ListN.{length}
use Rattle.table_index.specs.Inner.Keys.{keys_of}
use Rattle.table_index.specs.Inner.Marks.{marks_of}
use Rattle.table_index.specs.Inner.Index.{Grouped}
use Rattle.table_index.proofs.group.group_rows.Given as goal

abbrev pub invariant-loop-row : goal.invariant-loop-row
invariant-loop-row l = Grouped (length l.classes) (marks_of (keys_of l.side l.classes l.pool)) l.index l.row
