-- `text_places::find::same_bytes` meets its contract, by the laws of PlaceLaws and an invariant that says: the rest decides as the whole
-- does.
use Rattle.text_places.proofs.PlaceLaws.{Matching}
use Prim.Native.Nat.{◌-◌}
use lib.ListN.{length}
use Rattle.text_places.proofs.find.same_bytes.Given as goal

abbrev pub invariant-loop-i : goal.invariant-loop-i
invariant-loop-i l = Matching l.s l.t l.i
