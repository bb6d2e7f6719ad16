-- `number::read::read_number` meets its contract, by the laws of Reading.
use Rattle.number.proofs.Reading.{numbering}
use Rattle.number.proofs.read.read_number.Goals as goal

pub returns-then-s-eq0 : goal.returns-then-s-eq0
returns-then-s-eq0 c = search numbering

pub returns-then-s-eq43 : goal.returns-then-s-eq43
returns-then-s-eq43 c = search numbering

pub returns : goal.returns
returns c = search numbering
