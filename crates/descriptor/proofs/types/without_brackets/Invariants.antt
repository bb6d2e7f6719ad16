-- `descriptor::types::without_brackets` meets its contract, by the laws of Typing and an invariant that says: the rest decides as the whole
-- does.
use Rattle.descriptor.proofs.Typing.{Stripping}
use Rattle.descriptor.proofs.types.without_brackets.Given as goal

abbrev pub invariant-loop-end : goal.invariant-loop-end
invariant-loop-end l = Stripping l.s l.end l.brackets

abbrev pub decreases-loop-end : goal.decreases-loop-end
decreases-loop-end l = l.end
