-- `text_places::find::first_pair` meets its contract, by the laws of BlockLaws and an invariant that says: the rest decides as the whole
-- does.
use Rattle.text_places.proofs.PlaceLaws.{Seeking}
use Prim.Native.Nat.{◌-◌}
use lib.ListN.{length}
use Rattle.text_places.specs.Places.{starts_pair}
use Rattle.text_places.proofs.find.first_pair.Given as goal

abbrev pub invariant-loop-at : goal.invariant-loop-at
invariant-loop-at l = Seeking (starts_pair l.a l.b) l.s l.at

abbrev pub decreases-loop-at : goal.decreases-loop-at
decreases-loop-at l = length l.s - l.at
