-- `table_index::texts::compare_texts` meets its contract, by the laws of Comparing.
use Prim.Native.Nat.{◌-◌}
use lib.ListN.{length}
use Rattle.table_index.specs.Inner.Order.{Weighing}
use Rattle.table_index.proofs.texts.compare_texts.Given as goal

abbrev pub invariant-loop-i : goal.invariant-loop-i
invariant-loop-i l = Weighing l.a l.b l.i

abbrev pub decreases-loop-i : goal.decreases-loop-i
decreases-loop-i l = length l.a - l.i
