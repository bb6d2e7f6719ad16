-- `text_white::trim::first_white` meets its contract, by the laws of InkBlocks and an invariant that says what is done and what is left.
use Rattle.text_places.proofs.PlaceLaws.{Seeking}
use Rattle.text_white.specs.Trim.{starts_white}
use Prim.Native.Nat.{◌-◌}
use lib.ListN.{length}
use Rattle.text_white.proofs.trim.first_white.Given as goal

abbrev pub invariant-loop-at : goal.invariant-loop-at
invariant-loop-at l = Seeking starts_white l.s l.at

abbrev pub decreases-loop-at : goal.decreases-loop-at
decreases-loop-at l = length l.s - l.at
