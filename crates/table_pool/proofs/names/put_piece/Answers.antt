-- `table_pool::names::put_piece` meets its contract, by the laws of Naming.
use Rattle.table_pool.proofs.Naming.{piecing}
use Rattle.table_pool.proofs.names.put_piece.Goals as goal

pub returns : goal.returns
returns c = search piecing
