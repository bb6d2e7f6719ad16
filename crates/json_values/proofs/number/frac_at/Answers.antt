-- `json_values::number::frac_at` meets its contract, by the laws of Numbers.
use Rattle.json_values.proofs.Numbers.{options}
use Rattle.json_values.proofs.number.frac_at.Goals as goal

pub returns-then-s-at : goal.returns-then-s-at
returns-then-s-at c = search options

pub returns-then-s-at-ne46 : goal.returns-then-s-at-ne46
returns-then-s-at-ne46 c = search options

pub returns : goal.returns
returns c = search options
