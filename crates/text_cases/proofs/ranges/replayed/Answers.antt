-- `text_cases::ranges::replayed` meets its contract, by the laws of Safe.
use Rattle.text_cases.proofs.Safe.{splitting}
use Rattle.text_cases.proofs.ranges.replayed.Goals as goal

pub slice_bounds-kind-end : goal.slice_bounds-kind-end
slice_bounds-kind-end g c = search splitting

pub overflow_add-asked : goal.overflow_add-asked
overflow_add-asked g c = search splitting

pub slice_bounds-asked-count : goal.slice_bounds-asked-count
slice_bounds-asked-count g c = search splitting

pub slice_bounds-asked-start : goal.slice_bounds-asked-start
slice_bounds-asked-start g c = search splitting
