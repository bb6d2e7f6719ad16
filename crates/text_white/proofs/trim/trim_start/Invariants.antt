-- `text_white::trim::trim_start` meets its contract, by the laws of Starting and an invariant that says what is done and what is left.
use Prim.Native.Nat.{◌-◌}
use lib.ListN.{length}
use Rattle.text_white.specs.White.{is_white}
use Rattle.text_white.proofs.TrimLaws.{Running}
use Rattle.text_white.proofs.trim.trim_start.Given as goal

abbrev pub invariant-loop-at : goal.invariant-loop-at
invariant-loop-at l = Running is_white l.s l.at

abbrev pub decreases-loop-at : goal.decreases-loop-at
decreases-loop-at l = length l.s - l.at
