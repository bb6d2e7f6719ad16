-- `table_pool::write::put_bytes` meets its contract, by the laws of Writes and an invariant that says: the rest decides as the whole does.
use Rattle.table_pool.proofs.Writes.{Pasting}
use lib.ListN.{replicate}
use Prim.Native.Nat.{◌-◌}
use Rattle.table_pool.proofs.write.put_bytes.Given as goal

abbrev pub invariant-loop-k : goal.invariant-loop-k
invariant-loop-k l = Pasting l.initial.pool l.at (replicate l.count l.byte) l.pool l.k

abbrev pub decreases-loop-k : goal.decreases-loop-k
decreases-loop-k l = l.count - l.k
