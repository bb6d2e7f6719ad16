use Rattle.tree_signature.proofs.Walks.{backing}
use Rattle.tree_signature.proofs.signature.owner_before.Goals as goal

pub loop-end-init : goal.loop-end-init
loop-end-init c = search backing

pub returns-then-is_descriptor : goal.returns-then-is_descriptor
returns-then-is_descriptor c = search backing

pub loop-end-preserved : goal.loop-end-preserved
loop-end-preserved c = search backing
