use Rattle.table_index.proofs.Skipping.{skipping}
use Rattle.table_index.proofs.blocks.alike_up_to.Goals as goal

pub loop-k-preserved : goal.loop-k-preserved
loop-k-preserved c = search skipping
