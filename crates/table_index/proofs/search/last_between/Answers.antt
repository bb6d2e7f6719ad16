-- `table_index::search::last_between` meets its contract, by the laws of Searching.
use Rattle.table_index.proofs.Searching.{last_of_shelf}
use Rattle.table_index.proofs.search.last_between.Goals as goal

pub returns-then-place-start : goal.returns-then-place-start
returns-then-place-start c = search last_of_shelf

pub returns : goal.returns
returns c = search last_of_shelf
