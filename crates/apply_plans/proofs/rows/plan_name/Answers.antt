-- `apply_plans::rows::plan_name` meets its contract, by the laws of Rowing.
use Rattle.apply_plans.proofs.Rowing.{name_planning}
use Rattle.apply_plans.proofs.rows.plan_name.Goals as goal

pub returns : goal.returns
returns c = search name_planning
