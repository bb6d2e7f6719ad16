-- `apply_pieces::within::next_within` meets its contract, by the laws of Lookups.
use Rattle.apply_pieces.proofs.Lookups.{looking_within, within_past_fits}
use Rattle.apply_pieces.proofs.within.next_within.Goals as goal

pub returns-in_default : goal.returns-in_default
returns-in_default c = search looking_within

pub overflow_add-start : goal.overflow_add-start
overflow_add-start c = search looking_within

pub slice_bounds-first_byte-count-2 : goal.slice_bounds-first_byte-count-2
slice_bounds-first_byte-count-2 c = search looking_within

pub slice_bounds-first_byte-start-2 : goal.slice_bounds-first_byte-start-2
slice_bounds-first_byte-start-2 c = search looking_within

pub returns-in_default-first_byte : goal.returns-in_default-first_byte
returns-in_default-first_byte c = search looking_within

pub overflow_add-end : goal.overflow_add-end
overflow_add-end c = search looking_within

pub overflow_add-end-2 : goal.overflow_add-end-2
overflow_add-end-2 c = search within_past_fits

pub returns : goal.returns
returns c = search looking_within
