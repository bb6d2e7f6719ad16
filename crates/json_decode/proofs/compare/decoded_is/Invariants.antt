-- `json_decode::compare::decoded_is` meets its contract, by the laws of Comparing and an invariant that says: the rest decides as the
-- whole does.
use Rattle.json_decode.proofs.Comparing.{Comparing}
use Prim.Native.Nat.{◌-◌}
use lib.ListN.{length}
use Rattle.json_decode.proofs.compare.decoded_is.Given as goal

abbrev pub invariant-loop-at : goal.invariant-loop-at
invariant-loop-at l = Comparing l.s l.start l.text l.i l.at

abbrev pub decreases-loop-at : goal.decreases-loop-at
decreases-loop-at l = length l.s - l.at
