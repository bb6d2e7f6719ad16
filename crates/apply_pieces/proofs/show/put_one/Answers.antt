-- `apply_pieces::show::put_one` meets its contract, by the laws of Showing.
use Rattle.apply_pieces.proofs.Showing.{showing_one}
use Rattle.apply_pieces.proofs.show.put_one.Goals as goal

pub returns : goal.returns
returns c = search showing_one
