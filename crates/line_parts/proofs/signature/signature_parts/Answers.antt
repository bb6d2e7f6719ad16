-- `line_parts::signature::signature_parts` meets its contract, by the laws of Members.
use Rattle.line_parts.proofs.Members.{signing}
use Rattle.line_parts.proofs.signature.signature_parts.Goals as goal

pub slice_bounds-owner_and_name-end : goal.slice_bounds-owner_and_name-end
slice_bounds-owner_and_name-end c = search signing

pub overflow_add-after : goal.overflow_add-after
overflow_add-after c = search signing

pub slice_bounds-lines_after-count : goal.slice_bounds-lines_after-count
slice_bounds-lines_after-count c = search signing

pub slice_bounds-lines_after-start : goal.slice_bounds-lines_after-start
slice_bounds-lines_after-start c = search signing

pub overflow_add-result : goal.overflow_add-result
overflow_add-result c = search signing
