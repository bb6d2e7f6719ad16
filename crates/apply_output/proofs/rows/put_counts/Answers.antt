-- `apply_output::rows::put_counts` meets its contract, by the laws of Rowing.
use Rattle.apply_output.proofs.Rowing.{count_rows}
use Rattle.apply_output.proofs.rows.put_counts.Goals as goal

pub returns : goal.returns
returns c = search count_rows
