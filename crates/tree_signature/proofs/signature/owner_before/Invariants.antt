-- `tree_signature::signature::owner_before` meets its contract, by the laws of Walks and an invariant that says: none from here on.
use Rattle.tree_signature.proofs.Walks.{Backing}
use Rattle.tree_signature.proofs.signature.owner_before.Given as goal

abbrev pub invariant-loop-end : goal.invariant-loop-end
invariant-loop-end l = Backing l.counts l.tree l.first l.initial.end l.end

abbrev pub decreases-loop-end : goal.decreases-loop-end
decreases-loop-end l = l.end
