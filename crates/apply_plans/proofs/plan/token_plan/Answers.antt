-- `apply_plans::plan::token_plan` meets its contract, by the laws of Planning.
use Rattle.apply_plans.proofs.Planning.{token_plans}
use Rattle.apply_plans.proofs.plan.token_plan.Goals as goal

pub returns-then-kind-eq2 : goal.returns-then-kind-eq2
returns-then-kind-eq2 c = search token_plans

pub returns-then-kind-eq1 : goal.returns-then-kind-eq1
returns-then-kind-eq1 c = search token_plans

pub returns-then-kind-eq3 : goal.returns-then-kind-eq3
returns-then-kind-eq3 c = search token_plans

pub returns : goal.returns
returns c = search token_plans
