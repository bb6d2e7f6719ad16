-- `table_index::search::last_named` meets its contract, by the laws of Searching.
use Rattle.table_index.proofs.Searching.{searching, search_ranked}
use Rattle.table_index.proofs.search.last_named.Goals as goal

pub overflow_add-mark : goal.overflow_add-mark
overflow_add-mark c = search searching

pub offset_bounds-index-mark : goal.offset_bounds-index-mark
offset_bounds-index-mark c = search searching

pub bounds-index-mark : goal.bounds-index-mark
bounds-index-mark c = search searching

pub returns-then-first-eq0 : goal.returns-then-first-eq0
returns-then-first-eq0 c = search searching

pub shelf_at-shelf-requires : goal.shelf_at-shelf-requires
shelf_at-shelf-requires c = search searching

pub last_between-requires : goal.last_between-requires
last_between-requires c = let begun = c.before in
    let sized = c.if-index-ne-INDEX.false in
    search_ranked begun.requires sized _ c.mark_of-mark.ensures c.wide_number-first.ensures
    c.if-first-eq0.false
    c.shelf_at-shelf.ensures

pub returns : goal.returns
returns c = search searching
