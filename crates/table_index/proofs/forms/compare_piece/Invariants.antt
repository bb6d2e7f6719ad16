-- `table_index::forms::compare_piece` meets its contract, by the laws of Spelling.
use Rattle.table_index.specs.Inner.Order.{Weighing}
use Prim.Native.Nat.{◌-◌}
use lib.ListN.{length}
use Rattle.table_pool.specs.Inner.Named.{class_piece}
use Rattle.table_index.proofs.forms.compare_piece.Given as goal

abbrev pub invariant-loop-i : goal.invariant-loop-i
invariant-loop-i l = Weighing l.text (class_piece l.dots l.name) l.i

abbrev pub decreases-loop-i : goal.decreases-loop-i
decreases-loop-i l = length l.text - l.i
