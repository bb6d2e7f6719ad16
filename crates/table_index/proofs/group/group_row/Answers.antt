-- `table_index::group::group_row` meets its contract, by the laws of Grouping.
use Rattle.table_index.proofs.Grouping.{grouping}
use Rattle.table_index.proofs.group.group_row.Goals as goal

pub overflow_add-mark : goal.overflow_add-mark
overflow_add-mark c = search grouping

pub offset_bounds-index-mark : goal.offset_bounds-index-mark
offset_bounds-index-mark c = search grouping

pub bounds-index-mark : goal.bounds-index-mark
bounds-index-mark c = search grouping

pub overflow_add-index : goal.overflow_add-index
overflow_add-index c = search grouping

pub offset_bounds-index-mark-then-first-eq0 : goal.offset_bounds-index-mark-then-first-eq0
offset_bounds-index-mark-then-first-eq0 c = search grouping

pub bounds-index-mark-then-first-eq0 : goal.bounds-index-mark-then-first-eq0
bounds-index-mark-then-first-eq0 c = search grouping

pub join_head-requires : goal.join_head-requires
join_head-requires c = search grouping

pub returns-then-first-eq0 : goal.returns-then-first-eq0
returns-then-first-eq0 c = search grouping

pub join_head-requires-2 : goal.join_head-requires-2
join_head-requires-2 c = search grouping

pub returns : goal.returns
returns c = search grouping
