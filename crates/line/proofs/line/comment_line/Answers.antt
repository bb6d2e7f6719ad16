-- `line::line::comment_line` meets its contract, by the laws of Kinding.
use Rattle.line.proofs.Kinding.{commenting}
use Rattle.line.proofs.line.comment_line.Goals as goal

pub overflow_add-result : goal.overflow_add-result
overflow_add-result c = search commenting
