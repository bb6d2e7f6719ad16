-- `number::range::trailing_range` meets its contract, by the laws of Ranging.
use Rattle.number.proofs.Ranging.{trailing}
use Rattle.number.proofs.range.trailing_range.Goals as goal

pub two_numbers-requires : goal.two_numbers-requires
two_numbers-requires c = search trailing

pub returns : goal.returns
returns c = search trailing
