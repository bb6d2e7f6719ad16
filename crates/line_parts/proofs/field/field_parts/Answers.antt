-- `line_parts::field::field_parts` meets its contract, by the laws of Members.
use Rattle.line_parts.proofs.Members.{fielding}
use Rattle.line_parts.proofs.field.field_parts.Goals as goal

pub slice_bounds-trim_both-end : goal.slice_bounds-trim_both-end
slice_bounds-trim_both-end c = search fielding

pub slice_bounds-trim_both-count : goal.slice_bounds-trim_both-count
slice_bounds-trim_both-count c = search fielding

pub slice_bounds-trim_both-start : goal.slice_bounds-trim_both-start
slice_bounds-trim_both-start c = search fielding

pub shifted-requires : goal.shifted-requires
shifted-requires c = search fielding
