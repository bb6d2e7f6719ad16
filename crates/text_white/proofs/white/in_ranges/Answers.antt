use Rattle.text_white.proofs.Ranges.{ranging}
use Rattle.text_white.proofs.white.in_ranges.Goals as goal

pub returns-then-code-table : goal.returns-then-code-table
returns-then-code-table c = search ranging

pub returns-then-code-table-2 : goal.returns-then-code-table-2
returns-then-code-table-2 c = search ranging

pub loop-i-preserved : goal.loop-i-preserved
loop-i-preserved c = search ranging

pub returns : goal.returns
returns c = search ranging
