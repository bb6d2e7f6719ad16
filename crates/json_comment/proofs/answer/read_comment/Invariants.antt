-- `json_comment::answer::read_comment` meets its contract, by the laws of Answers and an invariant that says: the rest decides as the
-- whole does.
use Rattle.json_comment.proofs.Answers.{Reading}
use Prim.Native.Nat.{◌-◌}
use lib.ListN.{length}
use Rattle.json_comment.proofs.answer.read_comment.Given as goal

abbrev pub invariant-loop-place : goal.invariant-loop-place
invariant-loop-place l = Reading l.s l.at l.place l.id l.signature

abbrev pub decreases-loop-place : goal.decreases-loop-place
decreases-loop-place l = length l.s - l.place
