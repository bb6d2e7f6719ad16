-- `table_index::marks::mark_whole` meets its contract, by the laws of Marking.
use Rattle.table_index.proofs.Marking.{whole_marking}
use Rattle.table_index.proofs.marks.mark_whole.Goals as goal

pub returns-then-text-lt2 : goal.returns-then-text-lt2
returns-then-text-lt2 c = search whole_marking

pub returns : goal.returns
returns c = search whole_marking
