-- `load_residual::residual::opening_at` meets its contract, by the laws of Leading and an invariant that says what is done and what is
-- left.
use Rattle.load_residual.proofs.Leading.{Leading}
use Prim.Native.Nat.{◌-◌}
use lib.ListN.{length}
use Rattle.load_residual.proofs.residual.opening_at.Given as goal

abbrev pub invariant-loop-i : goal.invariant-loop-i
invariant-loop-i l = Leading l.text l.at l.i

abbrev pub decreases-loop-i : goal.decreases-loop-i
decreases-loop-i l = length l.text - l.i
