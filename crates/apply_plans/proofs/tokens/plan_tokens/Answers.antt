use Rattle.apply_plans.proofs.Stepping.{stepping}
use Rattle.apply_plans.proofs.tokens.plan_tokens.Goals as goal

pub loop-token-init : goal.loop-token-init
loop-token-init c = search stepping

pub returns-in_err-more : goal.returns-in_err-more
returns-in_err-more c = search stepping

pub loop-token-preserved : goal.loop-token-preserved
loop-token-preserved c = search (stepping, c.in_ok-more.was)
