-- `table_index::marks::mark_from` meets its contract, by the laws of Marking.
use Rattle.table_index.proofs.Marking.{marking}
use Rattle.table_index.proofs.marks.mark_from.Goals as goal

pub returns-then-length-lt4 : goal.returns-then-length-lt4
returns-then-length-lt4 c = search marking

pub returns : goal.returns
returns c = search marking
