-- `json_string::plain::plain_blocks` meets its contract, by the laws of PlainLaws and an invariant that says what is done and what is
-- left.
use Prim.Native.Nat.{◌-◌}
use lib.ListN.{length}
use Rattle.json_string.specs.Inner.Plain.{PlainTo}
use Rattle.json_string.proofs.plain.plain_blocks.Given as goal

abbrev pub invariant-loop-at : goal.invariant-loop-at
invariant-loop-at l = PlainTo l.s l.from l.at

abbrev pub decreases-loop-at : goal.decreases-loop-at
decreases-loop-at l = length l.s - l.at
