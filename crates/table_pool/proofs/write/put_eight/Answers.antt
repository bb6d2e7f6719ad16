-- `table_pool::write::put_eight` meets its contract, by the laws of Eights.
use Rattle.table_pool.proofs.Eights.{eight_bytes}
use Rattle.table_pool.proofs.write.put_eight.Goals as goal

pub returns : goal.returns
returns c = search eight_bytes
