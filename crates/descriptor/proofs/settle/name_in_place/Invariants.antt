-- `descriptor::settle::name_in_place` meets its contract, by the laws of Settling and an invariant that says: the rest decides as the whole
-- does.
use Rattle.descriptor.proofs.Settling.{Moving}
use Rattle.descriptor.proofs.settle.name_in_place.Given as goal

abbrev pub invariant-loop-j : goal.invariant-loop-j
invariant-loop-j l = Moving l.initial.pool l.at l.end l.pool l.j

abbrev pub decreases-loop-j : goal.decreases-loop-j
decreases-loop-j l = l.j
