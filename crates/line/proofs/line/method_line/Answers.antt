-- `line::line::method_line` meets its contract, by the laws of Kinding.
use Rattle.line.proofs.Kinding.{method_lines}
use Rattle.line.proofs.line.method_line.Goals as goal

pub shifted_method-requires : goal.shifted_method-requires
shifted_method-requires c = search method_lines
