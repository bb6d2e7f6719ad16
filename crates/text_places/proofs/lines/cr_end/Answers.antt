use Rattle.text_places.proofs.LineLaws.{cr_ending}
use Rattle.text_places.proofs.lines.cr_end.Goals as goal

pub returns-then-l-at-ne13 : goal.returns-then-l-at-ne13
returns-then-l-at-ne13 c = search cr_ending

pub loop-end-preserved : goal.loop-end-preserved
loop-end-preserved c = search cr_ending

pub returns : goal.returns
returns c = search cr_ending
