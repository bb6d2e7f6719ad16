-- `load_scan::step::next_step` meets its contract, by the laws of Stepping.
use Rattle.load_scan.proofs.Stepping.{next_stepping}
use Rattle.load_scan.proofs.step.next_step.Goals as goal

pub returns-in_default : goal.returns-in_default
returns-in_default c = search next_stepping

pub step_of-requires : goal.step_of-requires
step_of-requires c = search next_stepping

pub returns : goal.returns
returns c = search next_stepping
