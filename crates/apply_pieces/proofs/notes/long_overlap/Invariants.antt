-- `apply_pieces::notes::long_overlap` meets its contract, by the laws of Naming and an invariant that no more rows are read than there are.
use Rattle.apply_pieces.proofs.Naming.{Going}
use Prim.Native.Nat.{◌-◌}
use Rattle.apply_pieces.proofs.notes.long_overlap.Given as goal

abbrev pub invariant-loop-n : goal.invariant-loop-n
invariant-loop-n l = Going l.count l.n

abbrev pub decreases-loop-n : goal.decreases-loop-n
decreases-loop-n l = l.count - l.n
