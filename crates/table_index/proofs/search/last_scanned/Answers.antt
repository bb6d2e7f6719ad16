use Rattle.table_index.proofs.Searching.{scanning_all}
use Rattle.table_index.proofs.search.last_scanned.Goals as goal

pub loop-end-init : goal.loop-end-init
loop-end-init c = search scanning_all

pub returns-then-is_named : goal.returns-then-is_named
returns-then-is_named c = search scanning_all

pub loop-end-preserved : goal.loop-end-preserved
loop-end-preserved c = search scanning_all
