-- `text_utf8::ascii::greatest_of_block` meets its contract, by the laws of RunLaws and an invariant that says: the rest decides as the
-- whole does.
use Rattle.text_utf8.proofs.RunLaws.{Bounded}
use Prim.Native.Nat.{◌-◌}
use Rattle.text_utf8.proofs.ascii.greatest_of_block.Given as goal

abbrev pub invariant-loop-i : goal.invariant-loop-i
invariant-loop-i l = Bounded l.s l.at l.size l.greatest l.i
