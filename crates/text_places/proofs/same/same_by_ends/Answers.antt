-- `text_places::same::same_by_ends` meets its contract, by the laws of SameLaws.
use Rattle.text_places.proofs.SameLaws.{ending}
use Rattle.text_places.proofs.same.same_by_ends.Goals as goal

pub returns-then-block_differs : goal.returns-then-block_differs
returns-then-block_differs c = search ending

pub returns : goal.returns
returns c = search ending
