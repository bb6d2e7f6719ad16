use Rattle.load_raw_types.proofs.Going.{going}
use Rattle.load_raw_types.proofs.types.put_raw_pieces.Goals as goal

pub loop-ended-init : goal.loop-ended-init
loop-ended-init c = search going

pub put_first-requires : goal.put_first-requires
put_first-requires c = search going

pub returns-in-NoRoom : goal.returns-in-NoRoom
returns-in-NoRoom c = search going

pub returns-in-Last : goal.returns-in-Last
returns-in-Last c = search going

pub returns-in-NoRoom-put_plain : goal.returns-in-NoRoom-put_plain
returns-in-NoRoom-put_plain c = search going

pub returns-in-Last-put_plain : goal.returns-in-Last-put_plain
returns-in-Last-put_plain c = search going

pub loop-ended-smaller : goal.loop-ended-smaller
loop-ended-smaller c = search going

pub loop-ended-preserved : goal.loop-ended-preserved
loop-ended-preserved c = search going
