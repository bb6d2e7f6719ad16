use Rattle.apply_pieces.proofs.Knowing.{knowing}
use Rattle.apply_pieces.proofs.known.first_known.Goals as goal

pub returns-in-Some : goal.returns-in-Some
returns-in-Some c = search (knowing, c.in_ok-start.was)

pub loop-start-preserved : goal.loop-start-preserved
loop-start-preserved c = search knowing
