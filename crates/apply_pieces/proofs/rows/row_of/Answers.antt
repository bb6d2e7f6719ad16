-- `apply_pieces::rows::row_of` meets its contract, by the laws of Lookups.
use Rattle.apply_pieces.proofs.Lookups.{rows_by_raw}
use Rattle.apply_pieces.proofs.rows.row_of.Goals as goal

pub returns-then-longest-piece : goal.returns-then-longest-piece
returns-then-longest-piece c = search rows_by_raw
