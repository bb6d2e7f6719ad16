-- `apply_pieces::notes::note_names` meets its contract, by the laws of Naming.
use Rattle.apply_pieces.proofs.Naming.{all_names}
use Rattle.apply_pieces.proofs.notes.note_names.Goals as goal

pub returns : goal.returns
returns c = search all_names
