-- `tree_checks::nodes::root_fine` meets its contract, by the laws of Checked.
use Rattle.tree_checks.proofs.Checked.{node_tests}
use Rattle.tree_checks.proofs.nodes.root_fine.Goals as goal

pub returns-then-counts-lt1 : goal.returns-then-counts-lt1
returns-then-counts-lt1 c = search node_tests

pub parent_at-requires : goal.parent_at-requires
parent_at-requires c = search node_tests

pub returns : goal.returns
returns c = search node_tests
