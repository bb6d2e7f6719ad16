-- `tree_words::rows::name_row` meets its contract, by the laws of Wording.
use Rattle.tree_words.proofs.Wording.{rows}
use Rattle.tree_words.proofs.rows.name_row.Goals as goal

pub word_at-requires : goal.word_at-requires
word_at-requires c = search rows

pub overflow_add-at : goal.overflow_add-at
overflow_add-at c = search rows

pub word_at-requires-2 : goal.word_at-requires-2
word_at-requires-2 c = search rows

pub returns : goal.returns
returns c = search rows
