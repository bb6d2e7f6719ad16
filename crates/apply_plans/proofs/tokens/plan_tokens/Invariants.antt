-- `apply_plans::tokens::plan_tokens` meets its contract, by the laws of Stepping.
use Rattle.apply_plans.proofs.Stepping.{Stepping}
use Rattle.apply_plans.proofs.tokens.plan_tokens.Given as goal

abbrev pub invariant-loop-token : goal.invariant-loop-token
invariant-loop-token l = Stepping l.classes l.members l.pool l.counts l.tree l.home l.context l.member l.named l.first l.count l.names l.initial.out l.out l.token l.planned
