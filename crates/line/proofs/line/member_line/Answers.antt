-- `line::line::member_line` meets its contract, by the laws of Kinding.
use Rattle.line.proofs.Kinding.{membering}
use Rattle.line.proofs.line.member_line.Goals as goal

pub slice_bounds-side-end : goal.slice_bounds-side-end
slice_bounds-side-end c = search membering

pub shifted-raw-requires : goal.shifted-raw-requires
shifted-raw-requires c = search membering
