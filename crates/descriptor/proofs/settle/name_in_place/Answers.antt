use Rattle.descriptor.proofs.Settling.{moving}
use Rattle.descriptor.proofs.settle.name_in_place.Goals as goal

pub loop-j-init : goal.loop-j-init
loop-j-init c = search moving

pub loop-j-preserved : goal.loop-j-preserved
loop-j-preserved c = search moving

pub returns : goal.returns
returns c = search moving
