-- `json_string::string::escape_at` meets its contract, by the laws of PieceLaws.
use Rattle.json_string.proofs.PieceLaws.{escapes}
use Rattle.json_string.proofs.string.escape_at.Goals as goal

pub returns-then-s-at : goal.returns-then-s-at
returns-then-s-at c = search escapes

pub returns-then-s-at-eq117 : goal.returns-then-s-at-eq117
returns-then-s-at-eq117 c = search escapes

pub returns-then-byte-eq0 : goal.returns-then-byte-eq0
returns-then-byte-eq0 c = search escapes

pub returns : goal.returns
returns c = search escapes
