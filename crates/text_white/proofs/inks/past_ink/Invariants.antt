-- `text_white::inks::past_ink` meets its contract, by the laws of InkBlocks and an invariant that says what is done.
use Prim.Native.Nat.{◌-◌}
use lib.ListN.{length}
use Rattle.text_white.specs.Inner.Inked.{Inked}
use Rattle.text_white.proofs.inks.past_ink.Given as goal

abbrev pub invariant-loop-at : goal.invariant-loop-at
invariant-loop-at l = Inked l.s l.at

abbrev pub decreases-loop-at : goal.decreases-loop-at
decreases-loop-at l = length l.s - l.at
