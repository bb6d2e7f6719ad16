-- `number::range::leading_range` meets its contract, by the laws of Ranging.
use Rattle.number.proofs.Ranging.{leading, lead_taken, lead_second_unread}
use Rattle.ground.proofs.Answered.{none_on}
use Rattle.number.proofs.range.leading_range.Goals as goal

pub overflow_add-after : goal.overflow_add-after
overflow_add-after c = search leading

pub slice_bounds-first_byte-count : goal.slice_bounds-first_byte-count
slice_bounds-first_byte-count c = search leading

pub slice_bounds-first_byte-start : goal.slice_bounds-first_byte-start
slice_bounds-first_byte-start c = search leading

pub overflow_add-second : goal.overflow_add-second
overflow_add-second c = search leading

pub slice_bounds-read_number-end : goal.slice_bounds-read_number-end
slice_bounds-read_number-end c = search leading

pub slice_bounds-read_number-end-2 : goal.slice_bounds-read_number-end-2
slice_bounds-read_number-end-2 c = search leading

pub returns-in_err-end : goal.returns-in_err-end
returns-in_err-end c = none_on c.from_residual-in_err-end.ensures (lead_second_unread c.args.s.now c.first_byte.ensures c.in_ok-first.was c.first_byte-2.ensures c.in_ok-width.was c.read_number.ensures c.in_ok-start.was c.read_number-2.ensures c.in_err-end.was)

pub overflow_add-result : goal.overflow_add-result
overflow_add-result c = search leading

pub returns : goal.returns
returns c = lead_taken c.args.s.now c.first_byte.ensures c.in_ok-first.was c.first_byte-2.ensures c.in_ok-width.was c.read_number.ensures c.in_ok-start.was c.read_number-2.ensures c.in_ok-end.was
