use Rattle.table_index.proofs.Searching.{trying}
use Rattle.table_index.proofs.search.last_of_few.Goals as goal

pub returns-then-is_named : goal.returns-then-is_named
returns-then-is_named c = search trying

pub loop-after-preserved : goal.loop-after-preserved
loop-after-preserved c = search trying
