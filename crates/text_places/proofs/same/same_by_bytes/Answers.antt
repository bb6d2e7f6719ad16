-- `text_places::same::same_by_bytes` meets its contract, by the laws of SameLaws.
use Rattle.text_places.proofs.SameLaws.{by_bytes}
use Rattle.text_places.proofs.same.same_by_bytes.Goals as goal

pub returns-then-s-eq0 : goal.returns-then-s-eq0
returns-then-s-eq0 c = search by_bytes

pub returns : goal.returns
returns c = search by_bytes
