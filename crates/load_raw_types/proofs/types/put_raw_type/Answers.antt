-- `load_raw_types::types::put_raw_type` meets its contract, by the laws of Typed.
use Rattle.load_raw_types.proofs.Typed.{raw_types}
use Rattle.load_raw_types.proofs.types.put_raw_type.Goals as goal

pub returns-in_err-after : goal.returns-in_err-after
returns-in_err-after c = search raw_types

pub slice_bounds-put_raw_base-end : goal.slice_bounds-put_raw_base-end
slice_bounds-put_raw_base-end c = search raw_types

pub put_raw_base-requires : goal.put_raw_base-requires
put_raw_base-requires c = search (raw_types, c.in_ok-after.was)

pub returns-in_err-ended : goal.returns-in_err-ended
returns-in_err-ended c = search (raw_types, c.in_ok-after.was, c.in_err-ended.was)

pub returns : goal.returns
returns c = search (raw_types, c.in_ok-after.was, c.in_ok-ended.was)
