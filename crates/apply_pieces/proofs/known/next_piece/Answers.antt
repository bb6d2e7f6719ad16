-- `apply_pieces::known::next_piece` meets its contract, by the laws of Knowing.
use Rattle.apply_pieces.proofs.Knowing.{piece_by_piece, past_fits}
use Rattle.apply_pieces.proofs.known.next_piece.Goals as goal

pub returns-in_err-plain : goal.returns-in_err-plain
returns-in_err-plain c = search (piece_by_piece, past_fits)

pub overflow_add-start : goal.overflow_add-start
overflow_add-start c = search (piece_by_piece, c.in_ok-plain.was)

pub slice_bounds-first_byte-count-2 : goal.slice_bounds-first_byte-count-2
slice_bounds-first_byte-count-2 c = search (piece_by_piece, c.in_ok-plain.was)

pub slice_bounds-first_byte-start-2 : goal.slice_bounds-first_byte-start-2
slice_bounds-first_byte-start-2 c = search (piece_by_piece, c.in_ok-plain.was)

pub returns-in_err-gap : goal.returns-in_err-gap
returns-in_err-gap c = search (piece_by_piece, past_fits)

pub overflow_add-end : goal.overflow_add-end
overflow_add-end c = search (piece_by_piece, c.in_ok-plain.was, c.in_ok-gap.was)

pub overflow_add-end-2 : goal.overflow_add-end-2
overflow_add-end-2 c = search (past_fits, c.in_ok-plain.was, c.in_ok-gap.was)

pub returns : goal.returns
returns c = search (piece_by_piece, c.in_ok-plain.was, c.in_ok-gap.was)
