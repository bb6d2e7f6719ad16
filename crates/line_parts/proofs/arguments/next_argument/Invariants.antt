-- `line_parts::arguments::next_argument` meets its contract, by the laws of Listed and an invariant that says: the rest decides as the
-- whole does.
use Rattle.line_parts.proofs.Listed.{Passing}
use Prim.Native.Nat.{◌-◌}
use lib.ListN.{length}
use Rattle.line_parts.proofs.arguments.next_argument.Given as goal

abbrev pub invariant-loop-at : goal.invariant-loop-at
invariant-loop-at l = Passing l.s l.start l.at

abbrev pub decreases-loop-at : goal.decreases-loop-at
decreases-loop-at l = length l.s - l.at
