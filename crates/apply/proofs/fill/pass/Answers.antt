-- `apply::fill::pass` meets its contract, by the laws of Filling.
use Rattle.apply.proofs.Filling.{pass_ready, passes}
use Rattle.apply.proofs.fill.pass.Goals as goal

pub returns-in_err-count : goal.returns-in_err-count
returns-in_err-count c = search passes

pub returns : goal.returns
returns c = search passes
