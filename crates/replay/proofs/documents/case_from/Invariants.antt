-- `replay::documents::case_from` meets its contract, by the laws of Cases; its invariant: each place is inside the text, not before `from`.
use Rattle.replay.proofs.Cases.{Seeking}
use Prim.Native.Nat.{◌-◌}
use lib.ListN.{length}
use Rattle.replay.proofs.documents.case_from.Given as goal

abbrev pub invariant-loop-at : goal.invariant-loop-at
invariant-loop-at l = Seeking l.s l.from l.at

abbrev pub decreases-loop-at : goal.decreases-loop-at
decreases-loop-at l = length l.s - l.at
