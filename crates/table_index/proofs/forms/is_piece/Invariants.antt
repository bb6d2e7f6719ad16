-- `table_index::forms::is_piece` meets its contract, by the laws of Spelling.
use Prim.Native.Nat.{◌-◌}
use lib.ListN.{length}
use Rattle.table_index.specs.Inner.Order.{AlikeTo}
use Rattle.table_index.proofs.forms.is_piece.Given as goal

abbrev pub invariant-loop-k : goal.invariant-loop-k
invariant-loop-k l = AlikeTo l.text 1 l.name l.dots l.k

abbrev pub decreases-loop-k : goal.decreases-loop-k
decreases-loop-k l = length l.name - l.k
