-- `load_raw_types::types::put_first` meets its contract, by the laws of Turned.
use Rattle.load_raw_types.proofs.Turned.{first_pieces}
use Rattle.load_raw_types.proofs.types.put_first.Goals as goal

pub returns-in_default-put_raw_piece : goal.returns-in_default-put_raw_piece
returns-in_default-put_raw_piece c = search first_pieces

pub returns-in_default : goal.returns-in_default
returns-in_default c = search first_pieces

pub overflow_add-end : goal.overflow_add-end
overflow_add-end c = search first_pieces

pub slice_bounds-put_raw_piece-end-2 : goal.slice_bounds-put_raw_piece-end-2
slice_bounds-put_raw_piece-end-2 c = search first_pieces

pub returns-in_default-put_raw_piece-2 : goal.returns-in_default-put_raw_piece-2
returns-in_default-put_raw_piece-2 c = search first_pieces

pub returns : goal.returns
returns c = search first_pieces
