use Rattle.text_places.proofs.BlockLaws.{lf_after_blocks}
use Rattle.text_places.proofs.lines.lf_from.Goals as goal

pub returns-then-s-from-eq10 : goal.returns-then-s-from-eq10
returns-then-s-from-eq10 c = search lf_after_blocks

pub returns-then-s-from-eq10-2 : goal.returns-then-s-from-eq10-2
returns-then-s-from-eq10-2 c = search lf_after_blocks

pub loop-at-init : goal.loop-at-init
loop-at-init c = search lf_after_blocks

pub returns-then-s-at-eq10 : goal.returns-then-s-at-eq10
returns-then-s-at-eq10 c = search lf_after_blocks

pub loop-at-preserved : goal.loop-at-preserved
loop-at-preserved c = search lf_after_blocks

pub returns : goal.returns
returns c = search lf_after_blocks
