-- `load_raw_types::types::put_plain` meets its contract, by the laws of Turned.
use Rattle.load_raw_types.proofs.Turned.{plains}
use Rattle.load_raw_types.proofs.types.put_plain.Goals as goal

pub returns-in_default-put_closed : goal.returns-in_default-put_closed
returns-in_default-put_closed c = search plains

pub returns-in_default : goal.returns-in_default
returns-in_default c = search plains

pub overflow_add-end : goal.overflow_add-end
overflow_add-end c = search plains

pub slice_bounds-put_name-end : goal.slice_bounds-put_name-end
slice_bounds-put_name-end c = search plains

pub returns-in_default-put_name : goal.returns-in_default-put_name
returns-in_default-put_name c = search plains

pub returns : goal.returns
returns c = search plains
