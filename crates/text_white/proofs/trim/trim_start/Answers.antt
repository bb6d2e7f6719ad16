use Rattle.text_white.proofs.Starting.{starting}
use Rattle.text_white.proofs.trim.trim_start.Goals as goal

pub loop-at-preserved : goal.loop-at-preserved
loop-at-preserved c = search starting
