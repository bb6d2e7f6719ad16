-- `table_pool::names::put_closed` meets its contract, by the laws of Naming.
use Rattle.table_pool.proofs.Naming.{closing}
use Rattle.table_pool.proofs.names.put_closed.Goals as goal

pub returns : goal.returns
returns c = search closing
