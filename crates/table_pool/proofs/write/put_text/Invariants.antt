-- `table_pool::write::put_text` meets its contract, by the laws of Writes and an invariant that says what is done and what is left.
use Rattle.table_pool.proofs.Writes.{Pasting}
use Prim.Native.Nat.{◌-◌}
use lib.ListN.{length}
use Rattle.table_pool.proofs.write.put_text.Given as goal

abbrev pub invariant-loop-k : goal.invariant-loop-k
invariant-loop-k l = Pasting l.initial.pool l.at l.text l.pool l.k
