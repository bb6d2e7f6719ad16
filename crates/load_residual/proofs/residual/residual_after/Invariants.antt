-- `load_residual::residual::residual_after` meets its contract, by the laws of Following and an invariant that says what is done and what
-- is left.
use Rattle.load_residual.proofs.Following.{Following}
use Prim.Native.Nat.{◌-◌}
use lib.ListN.{length}
use Rattle.load_residual.proofs.residual.residual_after.Given as goal

abbrev pub invariant-loop-passed : goal.invariant-loop-passed
invariant-loop-passed l = Following l.member l.text l.residual l.passed

abbrev pub decreases-loop-passed : goal.decreases-loop-passed
decreases-loop-passed l = length l.text - l.passed.bytes
