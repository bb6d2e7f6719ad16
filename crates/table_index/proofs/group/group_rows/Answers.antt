use Rattle.table_index.proofs.Grouping.{grouping_all}
use Rattle.table_index.proofs.group.group_rows.Goals as goal

pub loop-row-init : goal.loop-row-init
loop-row-init c = search grouping_all
