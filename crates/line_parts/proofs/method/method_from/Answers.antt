-- `line_parts::method::method_from` meets its contract, by the laws of Methods.
use Rattle.line_parts.proofs.Methods.{typing, signature_part, method_read}
use Rattle.line_parts.proofs.method.method_from.Goals as goal

pub overflow_add-base : goal.overflow_add-base
overflow_add-base c = search typing

pub slice_bounds-trim_both-count : goal.slice_bounds-trim_both-count
slice_bounds-trim_both-count c = search (typing, c.in_ok-white.was)

pub slice_bounds-trim_both-start : goal.slice_bounds-trim_both-start
slice_bounds-trim_both-start c = search (typing, c.in_ok-white.was)

pub overflow_add-start : goal.overflow_add-start
overflow_add-start c = search typing

pub overflow_add-end : goal.overflow_add-end
overflow_add-end c = search typing

pub signature_in-requires : goal.signature_in-requires
signature_in-requires c = search (signature_part, c.in_ok-white.was)

pub shifted_name-requires : goal.shifted_name-requires
shifted_name-requires c = search typing

pub shifted-requires : goal.shifted-requires
shifted-requires c = search (typing, c.in_ok-white.was, c.in_ok-named.was)
