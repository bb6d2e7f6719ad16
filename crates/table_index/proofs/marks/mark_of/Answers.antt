-- `table_index::marks::mark_of` meets its contract, by the laws of Marking.
use Rattle.table_index.proofs.Marking.{form_marking}
use Rattle.table_index.proofs.marks.mark_of.Goals as goal

pub returns-in-Piece : goal.returns-in-Piece
returns-in-Piece c = search form_marking
