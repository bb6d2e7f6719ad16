use Rattle.table_pool.proofs.Writes.{bytes}
use Rattle.table_pool.proofs.write.put_bytes.Goals as goal

pub loop-k-preserved : goal.loop-k-preserved
loop-k-preserved c = search bytes

pub returns : goal.returns
returns c = search bytes
