-- `load_raw_types::types::put_raw_pieces` meets its contract, by the laws of Going and an invariant that says what is done and what is
-- left.
use Rattle.load_raw_types.proofs.Going.{Going}
use Prim.Native.Nat.{◌-◌}
use lib.ListN.{length}
use Rattle.load_raw_types.proofs.types.put_raw_pieces.Given as goal

abbrev pub invariant-loop-ended : goal.invariant-loop-ended
invariant-loop-ended l = Going l.classes l.initial.pool l.at l.dots l.text l.pool l.start l.next

abbrev pub decreases-loop-ended : goal.decreases-loop-ended
decreases-loop-ended l = length l.text - l.start
