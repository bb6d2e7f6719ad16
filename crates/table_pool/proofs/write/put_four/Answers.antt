-- `table_pool::write::put_four` meets its contract, by the laws of Eights.
use Rattle.table_pool.proofs.Eights.{fours}
use Rattle.table_pool.proofs.write.put_four.Goals as goal

pub returns : goal.returns
returns c = search fours
