-- `table_pool::names::put_name` meets its contract, by the laws of Naming and an invariant that says what is done and what is left.
use Prim.Native.Nat.{◌-◌}
use lib.ListN.{length}
use Rattle.table_pool.proofs.Writes.{Pasting}
use Rattle.table_pool.specs.Inner.Named.{name_bytes}
use Rattle.table_pool.proofs.names.put_name.Given as goal

abbrev pub invariant-loop-k : goal.invariant-loop-k
invariant-loop-k l = Pasting l.initial.pool l.at (name_bytes l.dots l.name) l.pool l.k
