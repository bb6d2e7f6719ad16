-- `text_places::blocks::before_in_block` meets its contract, by the laws of BlockLaws.
use Rattle.text_places.proofs.BlockLaws.{byte_masking}
use Rattle.text_places.proofs.blocks.before_in_block.Goals as goal

pub overflow_mul-result : goal.overflow_mul-result
overflow_mul-result c = search byte_masking

pub overflow_add-result : goal.overflow_add-result
overflow_add-result c = search byte_masking

pub returns : goal.returns
returns c = search byte_masking
