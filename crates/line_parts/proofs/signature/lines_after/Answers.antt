-- `line_parts::signature::lines_after` meets its contract, by the laws of Members.
use Rattle.line_parts.proofs.Members.{lines_following}
use Rattle.line_parts.proofs.signature.lines_after.Goals as goal

pub slice_bounds-trailing_range-end : goal.slice_bounds-trailing_range-end
slice_bounds-trailing_range-end c = search lines_following
