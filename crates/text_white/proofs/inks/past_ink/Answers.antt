use Rattle.text_white.proofs.InkBlocks.{ink_blocks}
use Rattle.text_white.proofs.inks.past_ink.Goals as goal

pub returns-then-block_has_gap : goal.returns-then-block_has_gap
returns-then-block_has_gap c = search ink_blocks

pub loop-at-preserved : goal.loop-at-preserved
loop-at-preserved c = search ink_blocks
