-- `text_places::same::block_differs` meets its contract, by the laws of SameLaws and an invariant that says what is done and what is left.
use Rattle.text_places.proofs.SameLaws.{Differing}
use Prim.Native.Nat.{◌-◌}
use Rattle.text_places.proofs.same.block_differs.Given as goal

abbrev pub invariant-loop-i : goal.invariant-loop-i
invariant-loop-i l = Differing l.s l.t l.at l.size l.before l.i
