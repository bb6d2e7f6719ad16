-- `json_decode::write::write_pieces` meets its contract, by the laws of Writing and an invariant that says: the rest decides as the
-- whole does.
use Rattle.json_decode.proofs.Writing.{Writing}
use Prim.Native.Nat.{◌-◌}
use lib.ListN.{length}
use Rattle.json_decode.proofs.write.write_pieces.Given as goal

abbrev pub invariant-loop-from : goal.invariant-loop-from
invariant-loop-from l = Writing l.s l.start l.initial.room l.at l.room l.to l.from

abbrev pub decreases-loop-from : goal.decreases-loop-from
decreases-loop-from l = length l.s - l.from
