-- `apply::fill::fill_output` meets its contract, by the laws of Filling.
use Rattle.apply.proofs.Filling.{filling}
use Rattle.apply.proofs.fill.fill_output.Goals as goal

pub returns-then-out-tree : goal.returns-then-out-tree
returns-then-out-tree c = search filling

pub pass-requires : goal.pass-requires
pass-requires c = search filling

pub returns : goal.returns
returns c = search filling
