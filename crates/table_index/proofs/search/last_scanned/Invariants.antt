-- `table_index::search::last_scanned` meets its contract, by the laws of Searching.
use Rattle.tables.specs.Search.{has_name}
use Rattle.tables.proofs.Searching.{Scanning}
use Rattle.table_index.specs.Inner.Forms.{spelled}
use Rattle.table_index.proofs.search.last_scanned.Given as goal

abbrev pub invariant-loop-end : goal.invariant-loop-end
invariant-loop-end l = Scanning (has_name l.side l.pool (spelled l.form l.name)) l.classes l.end

abbrev pub decreases-loop-end : goal.decreases-loop-end
decreases-loop-end l = l.end
