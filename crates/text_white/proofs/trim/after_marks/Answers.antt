use Rattle.text_white.proofs.TrimLaws.{running}
use Rattle.text_white.proofs.trim.after_marks.Goals as goal

pub returns-in-End : goal.returns-in-End
returns-in-End c = search running

pub overflow_add-at : goal.overflow_add-at
overflow_add-at c = search running

pub loop-at-smaller : goal.loop-at-smaller
loop-at-smaller c = search running

pub loop-at-preserved : goal.loop-at-preserved
loop-at-preserved c = search running

pub returns-in-Good : goal.returns-in-Good
returns-in-Good c = search running

pub returns-in-Bad : goal.returns-in-Bad
returns-in-Bad c = search running

pub returns : goal.returns
returns c = search running
