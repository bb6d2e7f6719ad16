use Rattle.text_places.proofs.SameLaws.{differing}
use Rattle.text_places.proofs.same.block_differs.Goals as goal

pub loop-i-init : goal.loop-i-init
loop-i-init c = search differing

pub loop-i-preserved : goal.loop-i-preserved
loop-i-preserved c = search differing
