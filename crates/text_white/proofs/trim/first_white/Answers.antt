use Rattle.text_white.proofs.InkBlocks.{first_past_blocks, seek_two}
use Rattle.text_white.proofs.trim.first_white.Goals as goal

pub loop-at-init : goal.loop-at-init
loop-at-init c = search first_past_blocks

pub loop-at-preserved-then-is_ink-2 : goal.loop-at-preserved-then-is_ink-2
loop-at-preserved-then-is_ink-2 c = search (seek_two, first_past_blocks)

pub loop-at-preserved-else-is_ink-2 : goal.loop-at-preserved-else-is_ink-2
loop-at-preserved-else-is_ink-2 c = search first_past_blocks

pub loop-at-preserved-else-next-s : goal.loop-at-preserved-else-next-s
loop-at-preserved-else-next-s c = search first_past_blocks

pub returns-then-white_at : goal.returns-then-white_at
returns-then-white_at c = search first_past_blocks

pub loop-at-preserved : goal.loop-at-preserved
loop-at-preserved c = search first_past_blocks

pub returns : goal.returns
returns c = search first_past_blocks
