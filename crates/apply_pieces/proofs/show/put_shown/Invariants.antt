-- `apply_pieces::show::put_shown` meets its contract, by the laws of Showing and an invariant that says what is left.
use Rattle.apply_pieces.proofs.Showing.{Showing}
use Prim.Native.Nat.{◌-◌}
use lib.ListN.{length}
use Rattle.apply_pieces.proofs.show.put_shown.Given as goal

abbrev pub invariant-loop-after : goal.invariant-loop-after
invariant-loop-after l = Showing l.classes l.pool l.text l.initial.out l.at l.out l.from l.piece l.known l.next

abbrev pub decreases-loop-after : goal.decreases-loop-after
decreases-loop-after l = length l.text - l.from
