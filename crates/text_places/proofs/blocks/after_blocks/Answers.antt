use Rattle.text_places.proofs.BlockLaws.{blocks}
use Rattle.text_places.proofs.blocks.after_blocks.Goals as goal

pub returns-then-block_holds : goal.returns-then-block_holds
returns-then-block_holds c = search blocks

pub loop-at-preserved : goal.loop-at-preserved
loop-at-preserved c = search blocks

pub returns-then-block_holds-2 : goal.returns-then-block_holds-2
returns-then-block_holds-2 c = search blocks

pub returns : goal.returns
returns c = search blocks
