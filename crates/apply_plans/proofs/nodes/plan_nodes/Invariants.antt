-- `apply_plans::nodes::plan_nodes` meets its contract, by the laws of Passing.
use Rattle.apply_plans.specs.Inner.Passed.{NodesTo}
use Rattle.apply_plans.proofs.nodes.plan_nodes.Given as goal

abbrev pub invariant-loop-node : goal.invariant-loop-node
invariant-loop-node l = NodesTo l.node l.first l.names l.classes l.members l.pool l.class l.counts l.tree l.initial.out l.out
