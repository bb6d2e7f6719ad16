-- `load_texts::descriptors::put_arguments` meets its contract, by the laws of Typing and an invariant that says what is done and what is
-- left.
use Rattle.load_texts.proofs.Typing.{Arguing}
use Prim.Native.Nat.{◌-◌}
use lib.ListN.{length}
use Rattle.load_texts.proofs.descriptors.put_arguments.Given as goal

abbrev pub invariant-loop-from : goal.invariant-loop-from
invariant-loop-from l = Arguing l.classes l.index l.initial.pool l.at l.arguments l.to l.from l.pool

abbrev pub decreases-loop-from : goal.decreases-loop-from
decreases-loop-from l = length l.arguments - l.from
