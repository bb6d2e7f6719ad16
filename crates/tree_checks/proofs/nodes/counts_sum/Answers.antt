use Rattle.tree_checks.proofs.Checked.{summing}
use Rattle.tree_checks.proofs.nodes.counts_sum.Goals as goal

pub overflow_cast-nodes : goal.overflow_cast-nodes
overflow_cast-nodes c = search summing

pub loop-row-init : goal.loop-row-init
loop-row-init c = search summing

pub token_count_at-requires : goal.token_count_at-requires
token_count_at-requires c = search summing

pub overflow_cast-sum : goal.overflow_cast-sum
overflow_cast-sum c = search summing

pub overflow_add-sum : goal.overflow_add-sum
overflow_add-sum c = search summing

pub loop-row-preserved : goal.loop-row-preserved
loop-row-preserved c = search summing

pub overflow_cast-result : goal.overflow_cast-result
overflow_cast-result c = search summing

pub returns : goal.returns
returns c = search summing
