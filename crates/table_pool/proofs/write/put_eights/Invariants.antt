-- `table_pool::write::put_eights` meets its contract, by the laws of Eights and an invariant that says what is done and what is left.
use Rattle.table_pool.proofs.Eights.{Begun}
use Prim.Native.Nat.{◌-◌}
use lib.ListN.{length}
use Rattle.table_pool.proofs.write.put_eights.Given as goal

abbrev pub invariant-loop-k : goal.invariant-loop-k
invariant-loop-k l = Begun l.initial.pool l.at l.text l.pool l.k

abbrev pub decreases-loop-k : goal.decreases-loop-k
decreases-loop-k l = length l.text - l.k
