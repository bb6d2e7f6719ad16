use Rattle.tables.proofs.Tested.{asking}
use Rattle.tables.proofs.check.classes_fine.Goals as goal

pub returns-then-not-class_fine : goal.returns-then-not-class_fine
returns-then-not-class_fine c = search asking

pub loop-row-preserved : goal.loop-row-preserved
loop-row-preserved c = search asking

pub returns : goal.returns
returns c = search asking
