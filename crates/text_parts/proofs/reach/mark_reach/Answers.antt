use Rattle.text_parts.proofs.Marking.{marking}
use Rattle.text_parts.proofs.reach.mark_reach.Goals as goal

pub reach_from-good-requires : goal.reach_from-good-requires
reach_from-good-requires c = search marking

pub overflow_cast-reach : goal.overflow_cast-reach
overflow_cast-reach c = search marking

pub loop-group-preserved-then-tails-lt4 : goal.loop-group-preserved-then-tails-lt4
loop-group-preserved-then-tails-lt4 c = search marking
