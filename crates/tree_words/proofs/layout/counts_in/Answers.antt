-- `tree_words::layout::counts_in` meets its contract, by the laws of Wording.
use Rattle.tree_words.proofs.Wording.{layouts}
use Rattle.tree_words.proofs.layout.counts_in.Goals as goal

pub word_at-requires : goal.word_at-requires
word_at-requires c = search layouts

pub word_at-requires-2 : goal.word_at-requires-2
word_at-requires-2 c = search layouts

pub word_at-requires-3 : goal.word_at-requires-3
word_at-requires-3 c = search layouts

pub word_at-requires-4 : goal.word_at-requires-4
word_at-requires-4 c = search layouts

pub returns : goal.returns
returns c = search layouts
