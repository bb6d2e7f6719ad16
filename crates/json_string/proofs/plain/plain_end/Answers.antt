-- `json_string::plain::plain_end` meets its contract, by the laws of PlainLaws.
use Rattle.json_string.proofs.PlainLaws.{runs}
use Rattle.json_string.proofs.plain.plain_end.Goals as goal

pub returns-then-s-start : goal.returns-then-s-start
returns-then-s-start c = search runs

pub returns : goal.returns
returns c = search runs
