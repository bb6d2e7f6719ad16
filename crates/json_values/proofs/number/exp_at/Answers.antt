-- `json_values::number::exp_at` meets its contract, by the laws of Numbers.
use Rattle.json_values.proofs.Numbers.{options}
use Rattle.json_values.proofs.number.exp_at.Goals as goal

pub returns-then-s-at : goal.returns-then-s-at
returns-then-s-at c = search options

pub returns-then-s-at-eq101 : goal.returns-then-s-at-eq101
returns-then-s-at-eq101 c = search options

pub returns-then-s-at-eq69 : goal.returns-then-s-at-eq69
returns-then-s-at-eq69 c = search options

pub returns : goal.returns
returns c = search options
