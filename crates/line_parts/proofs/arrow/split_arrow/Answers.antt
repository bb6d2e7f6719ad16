-- `line_parts::arrow::split_arrow` meets its contract, by the laws of Splits.
use Rattle.line_parts.proofs.Splits.{splitting}
use Rattle.line_parts.proofs.arrow.split_arrow.Goals as goal

pub slice_bounds-trim_both-end : goal.slice_bounds-trim_both-end
slice_bounds-trim_both-end c = search splitting

pub overflow_add-after : goal.overflow_add-after
overflow_add-after c = search splitting

pub slice_bounds-trim_both-count : goal.slice_bounds-trim_both-count
slice_bounds-trim_both-count c = search splitting

pub slice_bounds-trim_both-start : goal.slice_bounds-trim_both-start
slice_bounds-trim_both-start c = search splitting

pub shifted-requires : goal.shifted-requires
shifted-requires c = search splitting
