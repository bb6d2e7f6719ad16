use Rattle.text_white.proofs.Sync.{ending}
use Rattle.text_white.proofs.trim.trim_end.Goals as goal

pub loop-end-init : goal.loop-end-init
loop-end-init c = search ending

pub returns-then-is_ink : goal.returns-then-is_ink
returns-then-is_ink c = search ending

pub loop-end-preserved-then-s-last-eq32 : goal.loop-end-preserved-then-s-last-eq32
loop-end-preserved-then-s-last-eq32 c = search ending

pub returns-then-length-eq0 : goal.returns-then-length-eq0
returns-then-length-eq0 c = search ending

pub loop-end-preserved : goal.loop-end-preserved
loop-end-preserved c = search ending

pub returns : goal.returns
returns c = search ending
