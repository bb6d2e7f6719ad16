use Rattle.table_index.proofs.Halving.{halving}
use Rattle.table_index.proofs.search.upper_bound.Goals as goal

pub loop-low-preserved-then-not_after : goal.loop-low-preserved-then-not_after
loop-low-preserved-then-not_after c = search halving

pub loop-low-preserved : goal.loop-low-preserved
loop-low-preserved c = search halving
