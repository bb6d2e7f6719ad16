-- `json_string::plain::plain_bytes` meets its contract, by the laws of PlainLaws and an invariant that says what is done and what is left.
use Rattle.json_string.proofs.PlainLaws.{Running}
use Prim.Native.Nat.{◌-◌}
use lib.ListN.{length}
use Rattle.json_string.proofs.plain.plain_bytes.Given as goal

abbrev pub invariant-loop-at : goal.invariant-loop-at
invariant-loop-at l = Running l.s l.start l.at

abbrev pub decreases-loop-at : goal.decreases-loop-at
decreases-loop-at l = length l.s - l.at
