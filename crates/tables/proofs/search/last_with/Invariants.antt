-- `tables::search::last_with` meets its contract, by the laws of Searching and an invariant that says what is done and what is left.
use Rattle.tables.proofs.Searching.{Scanning}
use Rattle.tables.specs.Search.{has_name}
use Rattle.tables.proofs.search.last_with.Given as goal

abbrev pub invariant-loop-end : goal.invariant-loop-end
invariant-loop-end l = Scanning (has_name l.side l.pool l.name) l.classes l.end

abbrev pub decreases-loop-end : goal.decreases-loop-end
decreases-loop-end l = l.end
