use Rattle.text_places.proofs.BlockLaws.{seeking_blocks}
use Rattle.text_places.proofs.find.first_byte.Goals as goal

pub loop-at-init : goal.loop-at-init
loop-at-init c = search seeking_blocks

pub returns-then-s-at : goal.returns-then-s-at
returns-then-s-at c = search seeking_blocks

pub loop-at-preserved : goal.loop-at-preserved
loop-at-preserved c = search seeking_blocks

pub returns : goal.returns
returns c = search seeking_blocks
