use Rattle.json_string.proofs.PlainLaws.{blocks}
use Rattle.json_string.proofs.plain.plain_blocks.Goals as goal

pub loop-at-preserved : goal.loop-at-preserved
loop-at-preserved c = search blocks
