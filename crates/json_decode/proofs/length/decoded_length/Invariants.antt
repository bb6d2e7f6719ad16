-- `json_decode::length::decoded_length` meets its contract, by the laws of Lengths and an invariant that says: the rest decides as the
-- whole does.
use Rattle.json_decode.proofs.Lengths.{Counting}
use Prim.Native.Nat.{◌-◌}
use lib.ListN.{length}
use Rattle.json_decode.proofs.length.decoded_length.Given as goal

abbrev pub invariant-loop-at : goal.invariant-loop-at
invariant-loop-at l = Counting l.s l.start l.total l.at

abbrev pub decreases-loop-at : goal.decreases-loop-at
decreases-loop-at l = length l.s - l.at
