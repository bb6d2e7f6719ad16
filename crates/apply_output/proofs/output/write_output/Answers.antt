-- `apply_output::output::write_output` meets its contract, by the laws of Outputting.
use Rattle.apply_output.proofs.Outputting.{outputs}
use Rattle.apply_output.proofs.output.write_output.Goals as goal

pub returns-then-out-texts : goal.returns-then-out-texts
returns-then-out-texts c = search outputs

pub returns : goal.returns
returns c = search (outputs, c.in_ok-end.was)
