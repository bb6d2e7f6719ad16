-- `load_members::passed::with_passed` meets its contract, by the laws of Behind.
use Rattle.load_members.proofs.Behind.{counting_passed}
use Rattle.load_members.proofs.passed.with_passed.Goals as goal

pub overflow_add-sum : goal.overflow_add-sum
overflow_add-sum c = search counting_passed

pub overflow_add-sum-2 : goal.overflow_add-sum-2
overflow_add-sum-2 c = search counting_passed

pub overflow_add-sum-3 : goal.overflow_add-sum-3
overflow_add-sum-3 c = search counting_passed

pub overflow_add-sum-4 : goal.overflow_add-sum-4
overflow_add-sum-4 c = search counting_passed

pub overflow_add-sum-5 : goal.overflow_add-sum-5
overflow_add-sum-5 c = search counting_passed

pub overflow_add-sum-6 : goal.overflow_add-sum-6
overflow_add-sum-6 c = search counting_passed

pub returns : goal.returns
returns c = search counting_passed
