-- `load::fill::accepted` meets its contract, by the laws of Deciding.
use Rattle.load.proofs.Deciding.{accepting}
use Rattle.load.proofs.fill.accepted.Goals as goal

pub returns-then-fates-eq0 : goal.returns-then-fates-eq0
returns-then-fates-eq0 c = search accepting

pub overflow_cast-result : goal.overflow_cast-result
overflow_cast-result c = search accepting

pub returns : goal.returns
returns c = search accepting
