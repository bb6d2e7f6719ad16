-- `text_places::lines::cr_end` meets its contract, by the laws of LineLaws and an invariant that says: the rest decides as the whole does.
use Rattle.text_places.proofs.LineLaws.{CrEnd}
use Rattle.text_places.proofs.lines.cr_end.Given as goal

abbrev pub invariant-loop-end : goal.invariant-loop-end
invariant-loop-end l = CrEnd l.l l.end

abbrev pub decreases-loop-end : goal.decreases-loop-end
decreases-loop-end l = l.end
