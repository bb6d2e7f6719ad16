-- `text_places::lines::next_start` meets its contract, by the laws of LineLaws.
use Rattle.text_places.proofs.LineLaws.{next_starts}
use Rattle.text_places.proofs.lines.next_start.Goals as goal

pub returns-then-lf-s : goal.returns-then-lf-s
returns-then-lf-s c = search next_starts

pub returns : goal.returns
returns c = search next_starts
