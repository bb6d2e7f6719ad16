-- `line::line::field_line` meets its contract, by the laws of Kinding.
use Rattle.line.proofs.Kinding.{field_lines}
use Rattle.line.proofs.line.field_line.Goals as goal

pub shifted-requires : goal.shifted-requires
shifted-requires c = search field_lines

pub shifted-requires-2 : goal.shifted-requires-2
shifted-requires-2 c = search field_lines
