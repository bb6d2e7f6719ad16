use Rattle.name_index.proofs.Wanting.{walking_wanted}
use Rattle.name_index.proofs.chained.walk_wanted.Goals as goal

pub loop-count-smaller-then-not-is_wanted : goal.loop-count-smaller-then-not-is_wanted
loop-count-smaller-then-not-is_wanted c = search walking_wanted

pub loop-count-preserved-then-not-is_wanted : goal.loop-count-preserved-then-not-is_wanted
loop-count-preserved-then-not-is_wanted c = search walking_wanted

pub returns-then-field : goal.returns-then-field
returns-then-field c = search walking_wanted

pub returns-then-same_text : goal.returns-then-same_text
returns-then-same_text c = search walking_wanted

pub loop-count-smaller-then-any-gt0 : goal.loop-count-smaller-then-any-gt0
loop-count-smaller-then-any-gt0 c = search walking_wanted

pub loop-count-preserved-then-any-gt0 : goal.loop-count-preserved-then-any-gt0
loop-count-preserved-then-any-gt0 c = search walking_wanted

pub loop-count-smaller : goal.loop-count-smaller
loop-count-smaller c = search walking_wanted

pub loop-count-preserved : goal.loop-count-preserved
loop-count-preserved c = search walking_wanted

pub returns-then-any-gt0-2 : goal.returns-then-any-gt0-2
returns-then-any-gt0-2 c = search walking_wanted

pub returns : goal.returns
returns c = search walking_wanted
