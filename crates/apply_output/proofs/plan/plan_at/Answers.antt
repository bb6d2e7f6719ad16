-- `apply_output::plan::plan_at` meets its contract, by the laws of Planning.
use Rattle.apply_output.proofs.Planning.{plans}
use Rattle.apply_output.proofs.plan.plan_at.Goals as goal

pub returns-then-first-eq0 : goal.returns-then-first-eq0
returns-then-first-eq0 c = search plans

pub returns : goal.returns
returns c = search plans
