use Rattle.tree_checks.proofs.Checked.{asking}
use Rattle.tree_checks.proofs.nodes.faulty_parent.Goals as goal

pub overflow_cast-nodes : goal.overflow_cast-nodes
overflow_cast-nodes c = search asking

pub loop-row-init : goal.loop-row-init
loop-row-init c = search asking

pub parent_lower-requires : goal.parent_lower-requires
parent_lower-requires c = search asking

pub returns-then-not-parent_lower : goal.returns-then-not-parent_lower
returns-then-not-parent_lower c = search asking

pub loop-row-preserved : goal.loop-row-preserved
loop-row-preserved c = search asking

pub returns : goal.returns
returns c = search asking
