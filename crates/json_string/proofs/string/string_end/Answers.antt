use Rattle.json_string.proofs.Strings.{stringing, string_wrong}
use Rattle.json_string.proofs.string.string_end.Goals as goal

pub loop-at-init : goal.loop-at-init
loop-at-init c = search stringing

pub loop-at-preserved-then-is_plain : goal.loop-at-preserved-then-is_plain
loop-at-preserved-then-is_plain c = search stringing

pub loop-at-preserved-in-Byte : goal.loop-at-preserved-in-Byte
loop-at-preserved-in-Byte c = search stringing

pub loop-at-preserved : goal.loop-at-preserved
loop-at-preserved c = search stringing

pub returns-in-Closes : goal.returns-in-Closes
returns-in-Closes c = search stringing

pub returns-in-Wrong : goal.returns-in-Wrong
returns-in-Wrong c = string_wrong c.loop-at.invariant c.every_piece_at.ensures c.in-Wrong.is

pub returns : goal.returns
returns c = search stringing
