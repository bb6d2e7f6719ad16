-- `apply_plans::tokens::plan_token` meets its contract, by the laws of Stepping.
use Rattle.apply_plans.proofs.Stepping.{turning}
use Rattle.apply_plans.proofs.tokens.plan_token.Goals as goal

pub put_planned-requires : goal.put_planned-requires
put_planned-requires c = search turning
