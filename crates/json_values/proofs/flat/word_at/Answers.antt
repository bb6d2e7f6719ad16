use Rattle.json_values.proofs.Flats.{wording}
use Rattle.json_values.proofs.flat.word_at.Goals as goal

pub returns-then-s-at : goal.returns-then-s-at
returns-then-s-at c = search wording

pub returns-then-s-at-2 : goal.returns-then-s-at-2
returns-then-s-at-2 c = search wording

pub loop-i-preserved : goal.loop-i-preserved
loop-i-preserved c = search wording

pub returns : goal.returns
returns c = search wording
