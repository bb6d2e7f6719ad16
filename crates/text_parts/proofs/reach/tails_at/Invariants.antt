-- `text_parts::reach::tails_at` meets its contract, by the laws of Marking and an invariant that says what is done and what is left.
use Rattle.text_parts.proofs.Marking.{Tailing}
use Prim.Native.Nat.{◌-◌}
use Rattle.text_parts.proofs.reach.tails_at.Given as goal

abbrev pub invariant-loop-count : goal.invariant-loop-count
invariant-loop-count l = Tailing l.s l.at l.count l.next

abbrev pub decreases-loop-count : goal.decreases-loop-count
decreases-loop-count l = 4 - l.count
