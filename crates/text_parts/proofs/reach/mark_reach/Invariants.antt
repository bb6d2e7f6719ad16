-- `text_parts::reach::mark_reach` meets its contract, by the laws of Marking and an invariant that says what is done and what is left.
use Rattle.text_parts.proofs.Marking.{Marking}
use Prim.Native.Nat.{◌-◌}
use Rattle.text_parts.proofs.reach.mark_reach.Given as goal

abbrev pub invariant-loop-group : goal.invariant-loop-group
invariant-loop-group l = Marking l.s l.reach l.group l.place l.good

abbrev pub decreases-loop-group : goal.decreases-loop-group
decreases-loop-group l = 32768 - l.group
