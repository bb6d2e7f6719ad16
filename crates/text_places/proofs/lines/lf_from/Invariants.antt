-- `text_places::lines::lf_from` meets its contract, by the laws of BlockLaws and an invariant that says: the rest decides as the whole
-- does.
use Rattle.text_places.proofs.LineLaws.{ToLf}
use Prim.Native.Nat.{◌-◌}
use lib.ListN.{length}
use Rattle.text_places.proofs.lines.lf_from.Given as goal

abbrev pub invariant-loop-at : goal.invariant-loop-at
invariant-loop-at l = ToLf l.s l.from l.at

abbrev pub decreases-loop-at : goal.decreases-loop-at
decreases-loop-at l = length l.s - l.at
