-- `json_values::number::number_at` meets its contract, by the laws of Numbers.
use Rattle.json_values.proofs.Numbers.{numbering}
use Rattle.json_values.proofs.number.number_at.Goals as goal

pub returns-in_err-whole : goal.returns-in_err-whole
returns-in_err-whole c = search numbering

pub returns-in_err-fraction : goal.returns-in_err-fraction
returns-in_err-fraction c = search numbering

pub returns : goal.returns
returns c = search numbering
