use Rattle.text_parts.proofs.Marking.{tailing}
use Rattle.text_parts.proofs.reach.tails_at.Goals as goal

pub returns-then-s-next : goal.returns-then-s-next
returns-then-s-next c = search tailing

pub returns-then-not-is_tail : goal.returns-then-not-is_tail
returns-then-not-is_tail c = search tailing

pub loop-count-preserved : goal.loop-count-preserved
loop-count-preserved c = search tailing

pub returns : goal.returns
returns c = search tailing
