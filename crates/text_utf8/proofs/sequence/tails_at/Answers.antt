use Rattle.text_utf8.proofs.Sequences.{tailing}
use Rattle.text_utf8.proofs.sequence.tails_at.Goals as goal

pub returns-then-s-at : goal.returns-then-s-at
returns-then-s-at c = search tailing

pub returns-then-b-low : goal.returns-then-b-low
returns-then-b-low c = search tailing

pub returns-then-high-b : goal.returns-then-high-b
returns-then-high-b c = search tailing

pub loop-taken-preserved : goal.loop-taken-preserved
loop-taken-preserved c = search tailing

pub returns : goal.returns
returns c = search tailing
