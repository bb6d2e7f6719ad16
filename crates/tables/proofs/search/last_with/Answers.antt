use Rattle.tables.proofs.Searching.{scanning}
use Rattle.tables.proofs.search.last_with.Goals as goal

pub loop-end-init : goal.loop-end-init
loop-end-init c = search scanning

pub returns-then-same_bytes : goal.returns-then-same_bytes
returns-then-same_bytes c = search scanning

pub loop-end-preserved : goal.loop-end-preserved
loop-end-preserved c = search scanning
