use Rattle.table_pool.proofs.Naming.{naming}
use Rattle.table_pool.proofs.names.put_name.Goals as goal

pub loop-k-preserved : goal.loop-k-preserved
loop-k-preserved c = search naming

pub returns : goal.returns
returns c = search naming
