-- `text_places::blocks::block_holds` meets its contract, by the laws of BlockLaws and an invariant that says: the rest decides as the whole
-- does.
use Rattle.text_places.specs.Inner.Blocks.{is_byte}
use Rattle.text_places.proofs.MaskLaws.{Passed}
use Prim.Native.Nat.{◌-◌}
use Rattle.text_places.proofs.blocks.block_holds.Given as goal

abbrev pub invariant-loop-i : goal.invariant-loop-i
invariant-loop-i l = Passed (is_byte l.b) l.s l.at l.holds l.i
