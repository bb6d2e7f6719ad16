use Rattle.json_values.proofs.Spaces.{passing}
use Rattle.json_values.proofs.space.skip_space.Goals as goal

pub loop-at-preserved : goal.loop-at-preserved
loop-at-preserved c = search passing

pub returns-in-loop-at : goal.returns-in-loop-at
returns-in-loop-at c = search passing

pub returns : goal.returns
returns c = search passing
