use Rattle.replay.proofs.Cases.{seeking}
use Rattle.replay.proofs.documents.case_from.Goals as goal

pub loop-at-preserved : goal.loop-at-preserved
loop-at-preserved c = search seeking
