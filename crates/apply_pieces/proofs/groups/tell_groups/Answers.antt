use Rattle.apply_pieces.proofs.Telling.{telling}
use Rattle.apply_pieces.proofs.groups.tell_groups.Goals as goal

pub loop-group-init : goal.loop-group-init
loop-group-init c = search telling

pub loop-group-preserved : goal.loop-group-preserved
loop-group-preserved c = search telling
