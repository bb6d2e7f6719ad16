use Rattle.text_places.proofs.BlockLaws.{pairing_blocks}
use Rattle.text_places.proofs.find.first_pair.Goals as goal

pub loop-at-init : goal.loop-at-init
loop-at-init c = search pairing_blocks

pub loop-at-preserved-then-s-at : goal.loop-at-preserved-then-s-at
loop-at-preserved-then-s-at c = search pairing_blocks

pub loop-at-preserved : goal.loop-at-preserved
loop-at-preserved c = search pairing_blocks

pub returns-in-loop-at : goal.returns-in-loop-at
returns-in-loop-at c = search pairing_blocks

pub returns : goal.returns
returns c = search pairing_blocks
