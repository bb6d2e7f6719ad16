-- `text_places::blocks::mask_of_two` meets its contract, by the laws of MaskLaws.
use Rattle.text_places.proofs.MaskLaws.{masking}
use Rattle.text_places.proofs.blocks.mask_of_two.Goals as goal

pub returns : goal.returns
returns c = search masking
