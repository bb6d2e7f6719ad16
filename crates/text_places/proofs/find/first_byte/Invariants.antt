-- `text_places::find::first_byte` meets its contract, by the laws of BlockLaws and an invariant that says: the rest decides as the whole
-- does.
use Rattle.text_places.proofs.PlaceLaws.{Seeking}
use Prim.Native.Nat.{◌-◌}
use lib.ListN.{length}
use Rattle.text_places.specs.Places.{starts}
use Rattle.text_places.proofs.find.first_byte.Given as goal

abbrev pub invariant-loop-at : goal.invariant-loop-at
invariant-loop-at l = Seeking (starts l.b) l.s l.at
