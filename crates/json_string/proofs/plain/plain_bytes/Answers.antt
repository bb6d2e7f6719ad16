use Rattle.json_string.proofs.PlainLaws.{running}
use Rattle.json_string.proofs.plain.plain_bytes.Goals as goal

pub loop-at-preserved : goal.loop-at-preserved
loop-at-preserved c = search running

pub returns-in-loop-at : goal.returns-in-loop-at
returns-in-loop-at c = search running

pub returns : goal.returns
returns c = search running
