-- `apply_plans::rows::put_planned` meets its contract, by the laws of Rowing.
use Rattle.apply_plans.proofs.Rowing.{plan_putting}
use Rattle.apply_plans.proofs.rows.put_planned.Goals as goal

pub returns-in-Stays : goal.returns-in-Stays
returns-in-Stays c = search plan_putting

pub returns-in-Line : goal.returns-in-Line
returns-in-Line c = search plan_putting
