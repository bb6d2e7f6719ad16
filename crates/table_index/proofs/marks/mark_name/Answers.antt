-- `table_index::marks::mark_name` meets its contract, by the laws of Marking.
use Rattle.table_index.proofs.Marking.{naming}
use Rattle.table_index.proofs.marks.mark_name.Goals as goal

pub returns-then-length-lt4 : goal.returns-then-length-lt4
returns-then-length-lt4 c = search naming

pub returns : goal.returns
returns c = search naming
