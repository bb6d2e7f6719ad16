-- `apply_pieces::groups::tell_groups` meets its contract, by the laws of Telling and an invariant that the groups from here on are told of.
use Rattle.apply_pieces.proofs.Telling.{Telling}
use Rattle.apply_pieces.proofs.groups.tell_groups.Given as goal

abbrev pub invariant-loop-group : goal.invariant-loop-group
invariant-loop-group l = Telling l.classes l.pool l.text l.room l.initial.out l.out l.group l.stop l.ahead

abbrev pub decreases-loop-group : goal.decreases-loop-group
decreases-loop-group l = l.group
