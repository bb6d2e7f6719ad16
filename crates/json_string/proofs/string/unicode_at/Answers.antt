-- `json_string::string::unicode_at` meets its contract, by the laws of PieceLaws.
use Rattle.json_string.proofs.PieceLaws.{unicodes}
use Rattle.json_string.proofs.string.unicode_at.Goals as goal

pub returns : goal.returns
returns c = search unicodes
