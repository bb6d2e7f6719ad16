-- `tree_checks::nodes::counts_sum` meets its contract, by the laws of Checked and an invariant that says what was added and what is to
-- come.
use Rattle.tree_checks.proofs.Checked.{Summing}
use Rattle.tree_checks.proofs.nodes.counts_sum.Given as goal

abbrev pub invariant-loop-row : goal.invariant-loop-row
invariant-loop-row l = Summing l.tree l.nodes l.sum l.row
