-- `text_places::lines::next_line` meets its contract, by the laws of LineLaws.
use Rattle.text_places.proofs.LineLaws.{next_line_lem}
use Rattle.text_places.proofs.lines.next_line.Goals as goal

pub slice_bounds-cr_end-end : goal.slice_bounds-cr_end-end
slice_bounds-cr_end-end c = search next_line_lem

pub overflow_add-result : goal.overflow_add-result
overflow_add-result c = search next_line_lem

pub overflow_add-result-2 : goal.overflow_add-result-2
overflow_add-result-2 c = search next_line_lem
