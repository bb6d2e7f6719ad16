-- `number::range::to_colon` meets its contract, by the laws of Ranging.
use Rattle.number.proofs.Ranging.{to_colon_lem}
use Rattle.number.proofs.range.to_colon.Goals as goal

pub slice_bounds-result-end : goal.slice_bounds-result-end
slice_bounds-result-end c = search to_colon_lem
