-- `apply_pieces::long::cut_note` meets its contract, by the laws of Cutting.
use Rattle.apply_pieces.proofs.Cutting.{cutting}
use Rattle.apply_pieces.proofs.long.cut_note.Goals as goal

pub returns-then-note-eq0 : goal.returns-then-note-eq0
returns-then-note-eq0 c = search cutting

pub returns-then-from-size : goal.returns-then-from-size
returns-then-from-size c = search cutting

pub returns : goal.returns
returns c = search cutting
