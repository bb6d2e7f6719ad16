-- `apply_pieces::ahead::ahead_of` meets its contract, by the laws of AheadLaws.
use Rattle.apply_pieces.proofs.AheadLaws.{ahead_by}
use Rattle.apply_pieces.proofs.ahead.ahead_of.Goals as goal

pub returns-in_default : goal.returns-in_default
returns-in_default c = search ahead_by

pub overflow_add-end : goal.overflow_add-end
overflow_add-end c = search ahead_by

pub overflow_add-end-2 : goal.overflow_add-end-2
overflow_add-end-2 c = search ahead_by

pub seek_known-after-requires : goal.seek_known-after-requires
seek_known-after-requires c = search ahead_by

pub overflow_cast-result : goal.overflow_cast-result
overflow_cast-result c = search ahead_by

pub returns : goal.returns
returns c = search ahead_by
