use Rattle.name_index.proofs.Walking.{walking}
use Rattle.name_index.proofs.chained.walk_links.Goals as goal

pub returns-then-is_answer : goal.returns-then-is_answer
returns-then-is_answer c = search walking

pub loop-count-smaller : goal.loop-count-smaller
loop-count-smaller c = search walking

pub loop-count-preserved : goal.loop-count-preserved
loop-count-preserved c = search walking

pub returns : goal.returns
returns c = search walking
