-- `apply_plans::rows::put_row` meets its contract, by the laws of Rowing.
use Rattle.apply_plans.proofs.Rowing.{token_rows}
use Rattle.apply_plans.proofs.rows.put_row.Goals as goal

pub returns : goal.returns
returns c = search token_rows
