use Rattle.apply_pieces.proofs.Showing.{showing}
use Rattle.apply_pieces.proofs.show.put_shown.Goals as goal

pub returns-then-text-from : goal.returns-then-text-from
returns-then-text-from c = search (showing, c.in_ok-after.was)

pub returns-in-None : goal.returns-in-None
returns-in-None c = search showing

pub loop-after-preserved : goal.loop-after-preserved
loop-after-preserved c = search (showing, c.in_ok-after.was)
