-- `tree_checks::nodes::parent_lower` meets its contract, by the laws of Checked.
use Rattle.tree_checks.proofs.Checked.{node_tests}
use Rattle.tree_checks.proofs.nodes.parent_lower.Goals as goal

pub parent_at-parent-requires : goal.parent_at-parent-requires
parent_at-parent-requires c = search node_tests

pub overflow_cast-parent : goal.overflow_cast-parent
overflow_cast-parent c = search node_tests

pub returns : goal.returns
returns c = search node_tests
