-- `text_white::trim::after_marks` meets its contract, by the laws of TrimLaws and an invariant that says: the rest decides as the whole
-- does.
use Rattle.text_white.proofs.TrimLaws.{Running}
use Prim.Native.Nat.{◌-◌}
use lib.ListN.{length}
use lib.Dec.{eqb}
use Rattle.text_white.proofs.trim.after_marks.Given as goal

abbrev pub invariant-loop-at : goal.invariant-loop-at
invariant-loop-at l = Running (eqb 0xFEFF) l.s l.at

abbrev pub decreases-loop-at : goal.decreases-loop-at
decreases-loop-at l = length l.s - l.at
