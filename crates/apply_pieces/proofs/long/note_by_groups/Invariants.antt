-- `apply_pieces::long::note_by_groups` meets its contract, by the laws of Naming and an invariant that the names so far have their notes.
use Rattle.apply_pieces.proofs.Naming.{GroupNoting}
use Rattle.apply_pieces.proofs.long.note_by_groups.Given as goal

abbrev pub invariant-loop-n : goal.invariant-loop-n
invariant-loop-n l = GroupNoting l.counts l.tree l.index l.classes l.pool l.longest l.initial.out l.out l.n
