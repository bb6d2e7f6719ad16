-- `tree_words::layout::name_bytes` meets its contract, by the laws of Wording.
use Rattle.tree_words.proofs.Wording.{layouts}
use Rattle.tree_words.proofs.layout.name_bytes.Goals as goal

pub bytes_start-start-requires : goal.bytes_start-start-requires
bytes_start-start-requires c = search layouts

pub file_length-end-requires : goal.file_length-end-requires
file_length-end-requires c = search layouts

pub slice_bounds-result-count : goal.slice_bounds-result-count
slice_bounds-result-count c = search layouts

pub slice_bounds-result-start : goal.slice_bounds-result-start
slice_bounds-result-start c = search layouts

pub slice_bounds-result-end : goal.slice_bounds-result-end
slice_bounds-result-end c = search layouts

pub returns : goal.returns
returns c = search layouts
