-- `tree_checks::names::faulty_text` meets its contract, by the laws of Checked.
use Rattle.tree_checks.proofs.Checked.{reached}
use Rattle.tree_checks.proofs.names.faulty_text.Goals as goal

pub name_bytes-bytes-requires : goal.name_bytes-bytes-requires
name_bytes-bytes-requires c = search reached

pub ascii_start-requires : goal.ascii_start-requires
ascii_start-requires c = search reached

pub returns-then-ascii_start-bytes : goal.returns-then-ascii_start-bytes
returns-then-ascii_start-bytes c = search reached

pub slice_bounds-mark_reach-end : goal.slice_bounds-mark_reach-end
slice_bounds-mark_reach-end c = search reached

pub mark_reach-requires : goal.mark_reach-requires
mark_reach-requires c = (search reached, search reached)

pub slice_bounds-faulty_among-end : goal.slice_bounds-faulty_among-end
slice_bounds-faulty_among-end c = search reached

pub faulty_among-requires : goal.faulty_among-requires
faulty_among-requires c = search reached

pub returns : goal.returns
returns c = search reached
