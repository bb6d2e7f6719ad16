use Rattle.table_pool.proofs.Eights.{eights}
use Rattle.table_pool.proofs.write.put_eights.Goals as goal

pub loop-k-init : goal.loop-k-init
loop-k-init c = search eights

pub loop-k-preserved : goal.loop-k-preserved
loop-k-preserved c = search eights

pub returns : goal.returns
returns c = search eights
