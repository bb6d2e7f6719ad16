-- `text_parts::reach::reach_from` meets its contract, by the laws of Marking.
use Rattle.text_parts.proofs.Marking.{reaching}
use Rattle.text_parts.proofs.reach.reach_from.Goals as goal

pub returns-then-fresh-good : goal.returns-then-fresh-good
returns-then-fresh-good c = search reaching
