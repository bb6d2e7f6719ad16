use Rattle.tree_checks.proofs.Checked.{asking}
use Rattle.tree_checks.proofs.tokens.faulty_token.Goals as goal

pub tokens_start-start-requires : goal.tokens_start-start-requires
tokens_start-start-requires c = search asking

pub kind_bounds-bounds-requires : goal.kind_bounds-bounds-requires
kind_bounds-bounds-requires c = search asking

pub loop-row-init : goal.loop-row-init
loop-row-init c = search asking

pub overflow_mul-row : goal.overflow_mul-row
overflow_mul-row c = search asking

pub overflow_add-start : goal.overflow_add-start
overflow_add-start c = search asking

pub token_fine-requires : goal.token_fine-requires
token_fine-requires c = search asking

pub returns-then-not-token_fine : goal.returns-then-not-token_fine
returns-then-not-token_fine c = search asking

pub loop-row-preserved : goal.loop-row-preserved
loop-row-preserved c = search asking

pub returns : goal.returns
returns c = search asking
