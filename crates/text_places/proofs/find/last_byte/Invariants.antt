-- `text_places::find::last_byte` meets its contract, by the laws of PlaceLaws and an invariant that says: the rest decides as the whole
-- does.
use Rattle.text_places.proofs.PlaceLaws.{Backing}
use Rattle.text_places.specs.Places.{starts}
use Rattle.text_places.proofs.find.last_byte.Given as goal

abbrev pub invariant-loop-end : goal.invariant-loop-end
invariant-loop-end l = Backing (starts l.b) l.s l.end

abbrev pub decreases-loop-end : goal.decreases-loop-end
decreases-loop-end l = l.end
