-- `tree_words::rows::token_row` meets its contract, by the laws of Wording.
use Rattle.tree_words.proofs.Wording.{rows}
use Rattle.tree_words.proofs.rows.token_row.Goals as goal

pub word_at-kind-requires : goal.word_at-kind-requires
word_at-kind-requires c = search rows

pub overflow_add-at : goal.overflow_add-at
overflow_add-at c = search rows

pub word_at-a-requires : goal.word_at-a-requires
word_at-a-requires c = search rows

pub overflow_add-at-2 : goal.overflow_add-at-2
overflow_add-at-2 c = search rows

pub word_at-b-requires : goal.word_at-b-requires
word_at-b-requires c = search rows

pub returns-then-kind-eq1 : goal.returns-then-kind-eq1
returns-then-kind-eq1 c = search rows

pub returns-then-kind-eq2 : goal.returns-then-kind-eq2
returns-then-kind-eq2 c = search rows

pub returns-then-kind-eq3 : goal.returns-then-kind-eq3
returns-then-kind-eq3 c = search rows

pub returns : goal.returns
returns c = search rows
