-- `apply_pieces::notes::note_each` meets its contract, by the laws of Noting and an invariant that the names so far have their notes.
use Rattle.apply_pieces.proofs.Noting.{Noting}
use Rattle.apply_pieces.proofs.notes.note_each.Given as goal

abbrev pub invariant-loop-n : goal.invariant-loop-n
invariant-loop-n l = Noting l.counts l.tree l.classes l.pool l.initial.out l.out l.n
