-- `json_string::string::second_at` meets its contract, by the laws of PieceLaws.
use Rattle.json_string.proofs.PieceLaws.{seconds}
use Rattle.json_string.proofs.string.second_at.Goals as goal

pub returns-then-s-at-lt2 : goal.returns-then-s-at-lt2
returns-then-s-at-lt2 c = search seconds

pub returns-then-s-at-ne92 : goal.returns-then-s-at-ne92
returns-then-s-at-ne92 c = search seconds

pub returns-then-s-at-ne117 : goal.returns-then-s-at-ne117
returns-then-s-at-ne117 c = search seconds

pub returns-then-low-lt56320 : goal.returns-then-low-lt56320
returns-then-low-lt56320 c = search seconds

pub returns-then-low-gt57343 : goal.returns-then-low-gt57343
returns-then-low-gt57343 c = search seconds

pub returns : goal.returns
returns c = search seconds
