use Rattle.table_pool.proofs.Copying.{copying}
use Rattle.table_pool.proofs.write.put_copy.Goals as goal

pub loop-k-preserved : goal.loop-k-preserved
loop-k-preserved c = search copying

pub returns : goal.returns
returns c = search copying
