-- `text_places::same::same_text` meets its contract, by the laws of SameLaws and an invariant that says what is done and what is left.
use Rattle.text_places.proofs.SameLaws.{Agreeing}
use Prim.Native.Nat.{◌-◌}
use lib.ListN.{length}
use Rattle.text_places.proofs.same.same_text.Given as goal

abbrev pub invariant-loop-at : goal.invariant-loop-at
invariant-loop-at l = Agreeing l.s l.t l.at

abbrev pub decreases-loop-at : goal.decreases-loop-at
decreases-loop-at l = length l.s - l.at
