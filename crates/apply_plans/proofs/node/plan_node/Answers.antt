-- `apply_plans::node::plan_node` meets its contract, by the laws of Noding.
use Rattle.apply_plans.proofs.Noding.{noding}
use Rattle.apply_plans.proofs.node.plan_node.Goals as goal

pub plan_tokens-requires : goal.plan_tokens-requires
plan_tokens-requires c = search noding

pub returns : goal.returns
returns c = search noding
