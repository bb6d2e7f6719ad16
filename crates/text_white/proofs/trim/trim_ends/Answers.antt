-- `text_white::trim::trim_ends` meets its contract, by the laws of Sync.
use Rattle.text_white.proofs.Sync.{trimmed}
use Rattle.text_white.proofs.trim.trim_ends.Goals as goal

pub returns-then-is_ink : goal.returns-then-is_ink
returns-then-is_ink c = search trimmed

pub slice_bounds-trim_end-count : goal.slice_bounds-trim_end-count
slice_bounds-trim_end-count c = search trimmed

pub slice_bounds-trim_end-start : goal.slice_bounds-trim_end-start
slice_bounds-trim_end-start c = search trimmed

pub overflow_add-result : goal.overflow_add-result
overflow_add-result c = search trimmed
