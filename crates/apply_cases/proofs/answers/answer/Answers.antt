-- `apply_cases::answers::answer` meets its contract, by the laws of Lent.
use Rattle.apply_cases.proofs.Lent.{asking}
use Rattle.apply_cases.proofs.answers.answer.Goals as goal

pub slice_bounds-apply_digits-count : goal.slice_bounds-apply_digits-count
slice_bounds-apply_digits-count g c = search asking

pub slice_bounds-apply_digits-start : goal.slice_bounds-apply_digits-start
slice_bounds-apply_digits-start g c = search asking

pub slice_bounds-apply_digits-end-2 : goal.slice_bounds-apply_digits-end-2
slice_bounds-apply_digits-end-2 g c = search asking

pub slice_bounds-apply_digits-end-3 : goal.slice_bounds-apply_digits-end-3
slice_bounds-apply_digits-end-3 g c = search asking
