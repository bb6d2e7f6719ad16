use Rattle.text_utf8.proofs.RunLaws.{ascii_runs}
use Rattle.text_utf8.proofs.ascii.ascii_blocks.Goals as goal

pub loop-at-preserved : goal.loop-at-preserved
loop-at-preserved c = search ascii_runs
