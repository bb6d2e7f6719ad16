-- `tree_checks::nodes::length_agrees` meets its contract, by the laws of Checked.
use Rattle.tree_checks.proofs.Checked.{node_tests}
use Rattle.tree_checks.proofs.nodes.length_agrees.Goals as goal

pub file_length-requires : goal.file_length-requires
file_length-requires c = search node_tests

pub returns : goal.returns
returns c = search node_tests
