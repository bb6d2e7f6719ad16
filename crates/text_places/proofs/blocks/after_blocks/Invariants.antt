-- `text_places::blocks::after_blocks` meets its contract, by the laws of BlockLaws and an invariant that says what is done and what is
-- left.
use Prim.Native.Nat.{◌-◌}
use lib.ListN.{length}
use Rattle.text_places.specs.Inner.Blocks.{Without}
use Rattle.text_places.proofs.blocks.after_blocks.Given as goal

abbrev pub invariant-loop-at : goal.invariant-loop-at
invariant-loop-at l = Without l.b l.s l.from l.at

abbrev pub decreases-loop-at : goal.decreases-loop-at
decreases-loop-at l = length l.s - l.at
