use Rattle.text_white.proofs.Ink.{last_past_ink}
use Rattle.text_white.proofs.trim.last_white.Goals as goal

pub loop-end-init : goal.loop-end-init
loop-end-init c = search last_past_ink

pub loop-end-preserved-then-is_ink : goal.loop-end-preserved-then-is_ink
loop-end-preserved-then-is_ink c = search last_past_ink

pub returns-then-white_at : goal.returns-then-white_at
returns-then-white_at c = search last_past_ink

pub loop-end-preserved : goal.loop-end-preserved
loop-end-preserved c = search last_past_ink
