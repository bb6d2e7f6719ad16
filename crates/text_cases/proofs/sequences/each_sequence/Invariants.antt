-- `text_cases::sequences::each_sequence` stays inside the bytes: its invariant is that the place does.
-- does.
use Rattle.text_places.proofs.Taking.{Taking}
use Prim.Native.Nat.{◌-◌}
use lib.ListN.{length}
use Rattle.text_cases.proofs.sequences.each_sequence.Given as goal

abbrev pub invariant-loop-at : goal.invariant-loop-at
invariant-loop-at g l = Taking l.s l.at

abbrev pub decreases-loop-at : goal.decreases-loop-at
decreases-loop-at g l = length l.s - l.at
