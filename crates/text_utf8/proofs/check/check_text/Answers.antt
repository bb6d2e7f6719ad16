use Rattle.text_utf8.proofs.Threes.{checking}
use Rattle.text_utf8.proofs.check.check_text.Goals as goal

pub loop-at-init : goal.loop-at-init
loop-at-init c = search checking

pub loop-at-preserved-then-s-at-lt128 : goal.loop-at-preserved-then-s-at-lt128
loop-at-preserved-then-s-at-lt128 c = search checking

pub overflow_add-at-in-loop-at : goal.overflow_add-at-in-loop-at
overflow_add-at-in-loop-at c = search checking

pub loop-at-preserved : goal.loop-at-preserved
loop-at-preserved c = search checking

pub returns : goal.returns
returns c = search checking
