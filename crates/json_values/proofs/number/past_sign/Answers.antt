-- `json_values::number::past_sign` meets its contract, by the laws of Numbers.
use Rattle.json_values.proofs.Numbers.{options}
use Rattle.json_values.proofs.number.past_sign.Goals as goal

pub returns-then-s-at : goal.returns-then-s-at
returns-then-s-at c = search options

pub returns-then-s-at-eq45 : goal.returns-then-s-at-eq45
returns-then-s-at-eq45 c = search options

pub returns-then-s-at-eq43 : goal.returns-then-s-at-eq43
returns-then-s-at-eq43 c = search options

pub returns : goal.returns
returns c = search options
