-- `load_classes::write::write_classes` meets its contract, by the laws of Writing.
use Rattle.load_classes.proofs.Writing.{Writing}
use Prim.Native.Nat.{◌-◌}
use lib.ListN.{length}
use Rattle.load_classes.proofs.write.write_classes.Given as goal

abbrev pub invariant-loop-at : goal.invariant-loop-at
invariant-loop-at l = Writing l.text l.initial.classes l.initial.pool l.at l.count l.end l.classes l.pool

abbrev pub decreases-loop-at : goal.decreases-loop-at
decreases-loop-at l = length l.text - l.at
