use Rattle.table_pool.proofs.Writes.{texts}
use Rattle.table_pool.proofs.write.put_text.Goals as goal

pub loop-k-preserved : goal.loop-k-preserved
loop-k-preserved c = search texts

pub returns : goal.returns
returns c = search texts
