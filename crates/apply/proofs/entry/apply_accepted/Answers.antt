-- `apply::entry::apply_accepted` meets its contract, by the laws of Accepting.
use Rattle.apply.proofs.Accepting.{accepting}
use Rattle.apply.proofs.entry.apply_accepted.Goals as goal

pub returns : goal.returns
returns c = (search accepting, search accepting)
