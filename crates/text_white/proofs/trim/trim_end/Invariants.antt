-- `text_white::trim::trim_end` meets its contract, by the laws of Sync and an invariant that says what is done and what is left.
use Rattle.text_white.proofs.Sync.{Ending}
use Rattle.text_white.proofs.trim.trim_end.Given as goal

abbrev pub invariant-loop-end : goal.invariant-loop-end
invariant-loop-end l = Ending l.s l.end

abbrev pub decreases-loop-end : goal.decreases-loop-end
decreases-loop-end l = l.end
