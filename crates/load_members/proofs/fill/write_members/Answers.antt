use Rattle.load_members.proofs.Adding.{filling_room}
use Rattle.load_members.proofs.Behind.{filling, filling_behind, filling_few, filling_skips, filling_read}
use Rattle.load_members.proofs.fill.write_members.Goals as goal

pub loop-at-init : goal.loop-at-init
loop-at-init c = search filling

pub returns-in-End : goal.returns-in-End
returns-in-End c = search filling

pub loop-at-preserved-in-Passed : goal.loop-at-preserved-in-Passed
loop-at-preserved-in-Passed c = search filling

pub enter_line-next-requires : goal.enter_line-next-requires
enter_line-next-requires c = search filling

pub returns-in_default : goal.returns-in_default
returns-in_default c = search filling

pub overflow_add-at : goal.overflow_add-at
overflow_add-at c = filling_behind c.loop-at.invariant _ c.next_step.ensures c.in-Line.is c.residual_after-looked.ensures

pub with_passed-fates-requires : goal.with_passed-fates-requires
with_passed-fates-requires c = (filling_room c.loop-at.invariant _ c.next_step.ensures c.in-Line.is c.counted-fates-in-Line.ensures, filling_few c.loop-at.invariant _ c.next_step.ensures c.in-Line.is c.residual_after-looked.ensures)

pub loop-at-preserved : goal.loop-at-preserved
loop-at-preserved c = filling_read c.loop-at.invariant _ c.next_step.ensures c.in-Line.is c.residual_after-looked.ensures c.counted-fates-in-Line.ensures _ _ _ c.enter_line-next.ensures c.in-Ok.is c.with_passed-fates.ensures

pub returns : goal.returns
returns c = search filling
