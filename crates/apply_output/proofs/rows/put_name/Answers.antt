-- `apply_output::rows::put_name` meets its contract, by the laws of Rowing.
use Rattle.apply_output.proofs.Rowing.{name_rows_lem}
use Rattle.apply_output.proofs.rows.put_name.Goals as goal

pub returns : goal.returns
returns c = search name_rows_lem
