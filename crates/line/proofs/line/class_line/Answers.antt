-- `line::line::class_line` meets its contract, by the laws of Kinding.
use Rattle.line.proofs.Kinding.{classing}
use Rattle.line.proofs.line.class_line.Goals as goal

pub shifted-requires : goal.shifted-requires
shifted-requires c = search classing

pub shifted-requires-2 : goal.shifted-requires-2
shifted-requires-2 c = search classing
