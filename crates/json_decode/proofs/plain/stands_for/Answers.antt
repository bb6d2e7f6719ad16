-- `json_decode::plain::stands_for` meets its contract, by the laws of OwnLaws.
use Rattle.json_decode.proofs.OwnLaws.{wording}
use Rattle.json_decode.proofs.plain.stands_for.Goals as goal

pub returns-then-same_text : goal.returns-then-same_text
returns-then-same_text c = search wording
