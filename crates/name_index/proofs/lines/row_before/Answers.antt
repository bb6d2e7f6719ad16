-- `name_index::lines::row_before` meets its contract, by the laws of Lining.
use Rattle.name_index.proofs.Lining.{lining_before}
use Rattle.name_index.proofs.lines.row_before.Goals as goal

pub overflow_add-row : goal.overflow_add-row
overflow_add-row c = search lining_before

pub offset_bounds-index-row : goal.offset_bounds-index-row
offset_bounds-index-row c = search lining_before

pub bounds-index-row : goal.bounds-index-row
bounds-index-row c = search lining_before

pub display_of-requires : goal.display_of-requires
display_of-requires c = search lining_before

pub name_of-requires : goal.name_of-requires
name_of-requires c = search lining_before

pub descriptor_of-requires : goal.descriptor_of-requires
descriptor_of-requires c = search lining_before

pub last_linked-requires : goal.last_linked-requires
last_linked-requires c = search lining_before

pub returns : goal.returns
returns c = search lining_before
