-- `apply_cases::answers::apply_tables` meets its contract, by the laws of Lent.
use Rattle.apply_cases.proofs.Lent.{applying}
use Rattle.apply_cases.proofs.answers.apply_tables.Goals as goal

pub slice_bounds-done-end : goal.slice_bounds-done-end
slice_bounds-done-end g c = search applying
