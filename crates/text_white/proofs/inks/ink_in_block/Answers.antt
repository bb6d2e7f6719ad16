-- `text_white::inks::ink_in_block` meets its contract, by the laws of InkBlocks.
use Rattle.text_white.proofs.InkBlocks.{gap_masking}
use Rattle.text_white.proofs.inks.ink_in_block.Goals as goal

pub overflow_mul-result : goal.overflow_mul-result
overflow_mul-result c = search gap_masking

pub overflow_add-result : goal.overflow_add-result
overflow_add-result c = search gap_masking

pub returns : goal.returns
returns c = search gap_masking
