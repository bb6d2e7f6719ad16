-- `load_members::fill::write_members` meets its contract, by the laws of Filling, Adding and Behind and an invariant of what is done.
use Rattle.load_members.proofs.Filling.{Filling}
use Prim.Native.Nat.{◌-◌}
use lib.ListN.{length}
use Rattle.load_members.proofs.fill.write_members.Given as goal

abbrev pub invariant-loop-at : goal.invariant-loop-at
invariant-loop-at l = Filling l.text l.classes l.index l.used l.initial.members l.initial.pool l.at l.slot l.member l.fates l.members l.pool

abbrev pub decreases-loop-at : goal.decreases-loop-at
decreases-loop-at l = length l.text - l.at
