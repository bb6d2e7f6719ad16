use Rattle.text_cases.proofs.Safe.{taking}
use Rattle.text_cases.proofs.each_line.Goals as goal

pub slice_bounds-replay-end : goal.slice_bounds-replay-end
slice_bounds-replay-end g c = search taking

pub loop-at-preserved : goal.loop-at-preserved
loop-at-preserved g c = search taking
