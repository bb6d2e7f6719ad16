-- `text_places::same::same_by_blocks` meets its contract, by the laws of SameLaws.
use Rattle.text_places.proofs.SameLaws.{by_blocks}
use Rattle.text_places.proofs.same.same_by_blocks.Goals as goal

pub returns : goal.returns
returns c = search by_blocks
