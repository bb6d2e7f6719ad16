use Rattle.json_values.proofs.Numbers.{passing_digits}
use Rattle.json_values.proofs.number.past_digits.Goals as goal

pub returns-then-s-at-lt48 : goal.returns-then-s-at-lt48
returns-then-s-at-lt48 c = search passing_digits

pub returns-then-s-at-gt57 : goal.returns-then-s-at-gt57
returns-then-s-at-gt57 c = search passing_digits

pub loop-at-preserved : goal.loop-at-preserved
loop-at-preserved c = search passing_digits

pub returns : goal.returns
returns c = search passing_digits
