-- `line::line::read_line` meets its contract, by the laws of Kinding.
use Rattle.line.proofs.Kinding.{kinding}
use Rattle.line.proofs.line.read_line.Goals as goal

pub slice_bounds-trimmed-end : goal.slice_bounds-trimmed-end
slice_bounds-trimmed-end c = search kinding

pub returns-then-start-gt0 : goal.returns-then-start-gt0
returns-then-start-gt0 c = search kinding

pub returns : goal.returns
returns c = search kinding
