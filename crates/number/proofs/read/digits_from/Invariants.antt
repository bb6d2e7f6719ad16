-- `number::read::digits_from` meets its contract, by the laws of Reading and an invariant that says: the rest decides as the whole does.
use Rattle.number.proofs.Reading.{Read}
use Prim.Native.Nat.{◌-◌}
use lib.ListN.{length}
use Rattle.number.proofs.read.digits_from.Given as goal

abbrev pub invariant-loop-at : goal.invariant-loop-at
invariant-loop-at l = Read l.s l.start l.value l.at

abbrev pub decreases-loop-at : goal.decreases-loop-at
decreases-loop-at l = length l.s - l.at
