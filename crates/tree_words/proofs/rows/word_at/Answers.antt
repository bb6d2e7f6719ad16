-- `tree_words::rows::word_at` meets its contract, by the laws of Wording.
use Rattle.tree_words.proofs.Wording.{words}
use Rattle.tree_words.proofs.rows.word_at.Goals as goal

pub bounds-tree-at : goal.bounds-tree-at
bounds-tree-at c = search words

pub wide-requires : goal.wide-requires
wide-requires c = search words

pub overflow_add-at : goal.overflow_add-at
overflow_add-at c = search words

pub bounds-tree-at-2 : goal.bounds-tree-at-2
bounds-tree-at-2 c = search words

pub wide-requires-2 : goal.wide-requires-2
wide-requires-2 c = search words

pub overflow_mul-low : goal.overflow_mul-low
overflow_mul-low c = search words

pub overflow_add-low : goal.overflow_add-low
overflow_add-low c = search words

pub overflow_add-at-2 : goal.overflow_add-at-2
overflow_add-at-2 c = search words

pub bounds-tree-at-3 : goal.bounds-tree-at-3
bounds-tree-at-3 c = search words

pub wide-requires-3 : goal.wide-requires-3
wide-requires-3 c = search words

pub overflow_mul-result : goal.overflow_mul-result
overflow_mul-result c = search words

pub overflow_add-result : goal.overflow_add-result
overflow_add-result c = search words

pub overflow_add-at-3 : goal.overflow_add-at-3
overflow_add-at-3 c = search words

pub bounds-tree-at-4 : goal.bounds-tree-at-4
bounds-tree-at-4 c = search words

pub wide-requires-4 : goal.wide-requires-4
wide-requires-4 c = search words

pub overflow_mul-result-2 : goal.overflow_mul-result-2
overflow_mul-result-2 c = search words

pub overflow_add-result-2 : goal.overflow_add-result-2
overflow_add-result-2 c = search words

pub returns : goal.returns
returns c = search words
