-- `tree_checks::tokens::token_fine` meets its contract, by the laws of Checked.
use Rattle.tree_checks.proofs.Checked.{token_tests}
use Rattle.tree_checks.proofs.tokens.token_fine.Goals as goal

pub word_at-kind-requires : goal.word_at-kind-requires
word_at-kind-requires c = search token_tests

pub overflow_cast-kind : goal.overflow_cast-kind
overflow_cast-kind c = search token_tests

pub returns-then-kind-gt3 : goal.returns-then-kind-gt3
returns-then-kind-gt3 c = search token_tests

pub offset_bounds-bounds-kind : goal.offset_bounds-bounds-kind
offset_bounds-bounds-kind c = search token_tests

pub bounds-bounds-kind : goal.bounds-bounds-kind
bounds-bounds-kind c = search token_tests

pub overflow_add-at : goal.overflow_add-at
overflow_add-at c = search token_tests

pub word_at-requires : goal.word_at-requires
word_at-requires c = search token_tests

pub overflow_cast-word_at : goal.overflow_cast-word_at
overflow_cast-word_at c = search token_tests

pub overflow_add-at-then-word_at-bound : goal.overflow_add-at-then-word_at-bound
overflow_add-at-then-word_at-bound c = search token_tests

pub word_at-requires-then-word_at-bound : goal.word_at-requires-then-word_at-bound
word_at-requires-then-word_at-bound c = search token_tests

pub overflow_cast-result : goal.overflow_cast-result
overflow_cast-result c = search token_tests

pub returns-then-word_at-bound : goal.returns-then-word_at-bound
returns-then-word_at-bound c = search token_tests

pub returns : goal.returns
returns c = search token_tests
