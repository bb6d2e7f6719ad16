-- `json_string::string::piece_at` meets its contract, by the laws of Strings.
use Rattle.json_string.proofs.Strings.{plain_pieces}
use Rattle.json_string.proofs.string.piece_at.Goals as goal

pub returns-then-s-at : goal.returns-then-s-at
returns-then-s-at c = search plain_pieces

pub returns-then-is_plain : goal.returns-then-is_plain
returns-then-is_plain c = search plain_pieces
