-- `load::entry::load_lines` meets its contract, by the laws of Leaving.
use borrow.Author.Rules.{rules}
use Rattle.load.proofs.Leaving.{left_loaded, left_refused, leaving}
use Rattle.load.proofs.entry.load_lines.Goals as goal

pub clear-requires : goal.clear-requires
clear-requires c = search leaving

pub lesser-class_rows-requires : goal.lesser-class_rows-requires
lesser-class_rows-requires c = search leaving

pub lesser-member_rows-requires : goal.lesser-member_rows-requires
lesser-member_rows-requires c = search leaving

pub lesser-bytes-requires : goal.lesser-bytes-requires
lesser-bytes-requires c = search leaving

pub slice_bounds-load_into-end : goal.slice_bounds-load_into-end
slice_bounds-load_into-end c = search leaving

pub slice_bounds-load_into-end-2 : goal.slice_bounds-load_into-end-2
slice_bounds-load_into-end-2 c = search leaving

pub slice_bounds-load_into-end-3 : goal.slice_bounds-load_into-end-3
slice_bounds-load_into-end-3 c = search leaving

pub slice_bounds-load_into-end-4 : goal.slice_bounds-load_into-end-4
slice_bounds-load_into-end-4 c = search leaving

pub slice_bounds-load_into-end-5 : goal.slice_bounds-load_into-end-5
slice_bounds-load_into-end-5 c = search leaving

pub slice_bounds-load_into-end-6 : goal.slice_bounds-load_into-end-6
slice_bounds-load_into-end-6 c = search leaving

pub load_into-load-requires : goal.load_into-load-requires
load_into-load-requires c = search leaving

pub is_loaded-requires : goal.is_loaded-requires
is_loaded-requires c = search leaving

pub shape_of-classes-then-is_loaded : goal.shape_of-classes-then-is_loaded
shape_of-classes-then-is_loaded c = search leaving

pub shape_of-members-then-is_loaded : goal.shape_of-members-then-is_loaded
shape_of-members-then-is_loaded c = search leaving

pub shape_of-pool-then-is_loaded : goal.shape_of-pool-then-is_loaded
shape_of-pool-then-is_loaded c = search leaving

pub returns-then-is_loaded : goal.returns-then-is_loaded
returns-then-is_loaded c = left_loaded c.clear.ensures c.lesser-class_rows.ensures c.lesser-member_rows.ensures c.lesser-bytes.ensures _ c.load_into-load.ensures c.is_loaded.ensures c.if-is_loaded.true

pub clear-requires-2 : goal.clear-requires-2
clear-requires-2 c = search leaving

pub shape_of-classes : goal.shape_of-classes
shape_of-classes c = search leaving

pub shape_of-members : goal.shape_of-members
shape_of-members c = search leaving

pub shape_of-pool : goal.shape_of-pool
shape_of-pool c = search leaving

pub returns : goal.returns
returns c = left_refused c.clear.ensures c.lesser-class_rows.ensures c.lesser-member_rows.ensures c.lesser-bytes.ensures _ c.load_into-load.ensures c.is_loaded.ensures c.if-is_loaded.false (search rules) (search rules) (search rules) c.clear-2.ensures
