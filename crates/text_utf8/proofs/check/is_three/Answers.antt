-- `text_utf8::check::is_three` meets its contract, by the laws of Threes.
use Rattle.text_utf8.proofs.Threes.{threes}
use Rattle.text_utf8.proofs.check.is_three.Goals as goal

pub returns-then-is_tail : goal.returns-then-is_tail
returns-then-is_tail c = search threes
