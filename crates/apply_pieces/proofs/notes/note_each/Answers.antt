use Rattle.apply_pieces.proofs.Noting.{noting}
use Rattle.apply_pieces.proofs.notes.note_each.Goals as goal

pub loop-n-preserved : goal.loop-n-preserved
loop-n-preserved c = search noting
