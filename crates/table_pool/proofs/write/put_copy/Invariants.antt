-- `table_pool::write::put_copy` meets its contract, by the laws of Copying and an invariant that says what is done and what is left.
use Prim.Native.Nat.{◌-◌}
use lib.ListN.{take, drop}
use Rattle.table_pool.proofs.Writes.{Pasting}
use Rattle.table_pool.proofs.write.put_copy.Given as goal

abbrev pub invariant-loop-k : goal.invariant-loop-k
invariant-loop-k l = Pasting l.initial.pool l.at (take l.size (drop l.place l.initial.pool)) l.pool l.k

abbrev pub decreases-loop-k : goal.decreases-loop-k
decreases-loop-k l = l.size - l.k
