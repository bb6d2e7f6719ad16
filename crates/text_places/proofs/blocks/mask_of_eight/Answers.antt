-- `text_places::blocks::mask_of_eight` meets its contract, by the laws of MaskLaws.
use Rattle.text_places.proofs.MaskLaws.{masking}
use Rattle.text_places.proofs.blocks.mask_of_eight.Goals as goal

pub overflow_mul-result : goal.overflow_mul-result
overflow_mul-result c = search masking

pub overflow_add-result : goal.overflow_add-result
overflow_add-result c = search masking

pub returns : goal.returns
returns c = search masking
