-- `json_values::number::digits_at` meets its contract, by the laws of Numbers.
use Rattle.json_values.proofs.Numbers.{digit_reading}
use Rattle.json_values.proofs.number.digits_at.Goals as goal

pub returns-then-s-at : goal.returns-then-s-at
returns-then-s-at c = search digit_reading

pub returns-then-s-at-lt48 : goal.returns-then-s-at-lt48
returns-then-s-at-lt48 c = search digit_reading

pub returns-then-s-at-gt57 : goal.returns-then-s-at-gt57
returns-then-s-at-gt57 c = search digit_reading

pub returns : goal.returns
returns c = search digit_reading
