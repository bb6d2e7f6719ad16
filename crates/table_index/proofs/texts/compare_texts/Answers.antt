use Rattle.table_index.proofs.Comparing.{weighing}
use Rattle.table_index.proofs.texts.compare_texts.Goals as goal

pub loop-i-init : goal.loop-i-init
loop-i-init c = search weighing

pub returns-then-b-i : goal.returns-then-b-i
returns-then-b-i c = search weighing

pub returns-then-a-i : goal.returns-then-a-i
returns-then-a-i c = search weighing

pub returns-then-b-i-2 : goal.returns-then-b-i-2
returns-then-b-i-2 c = search weighing

pub loop-i-preserved : goal.loop-i-preserved
loop-i-preserved c = search weighing

pub returns-then-i-b : goal.returns-then-i-b
returns-then-i-b c = search weighing

pub returns : goal.returns
returns c = search weighing
