-- `text_white::inks::block_has_gap` meets its contract, by the laws of InkBlocks and an invariant that says what was passed.
use Prim.Native.Nat.{◌-◌}
use Rattle.text_places.proofs.MaskLaws.{Passed}
use Rattle.text_white.specs.Inner.Inked.{no_ink}
use Rattle.text_white.proofs.inks.block_has_gap.Given as goal

abbrev pub invariant-loop-i : goal.invariant-loop-i
invariant-loop-i l = Passed no_ink l.s l.at l.holds l.i
