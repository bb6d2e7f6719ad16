-- `tree_checks::tokens::faulty_token` meets its contract, by the laws of Checked and an invariant that says: the rows from here on decide
-- as all do.
use Rattle.tree_checks.proofs.Checked.{Asked}
use Prim.Native.Nat.{◌+◌, ◌*◌}
use Rattle.tree_rule.specs.Files.{tokens_start}
use Rattle.tree_rule.specs.Checks.{token_row_fine, faulty_token}
use Rattle.tree_checks.proofs.tokens.faulty_token.Given as goal

abbrev pub invariant-loop-row : goal.invariant-loop-row
invariant-loop-row l = Asked (λ i. token_row_fine l.fn.counts l.tree (tokens_start l.fn.counts + 12 * i)) l.fn.counts.tokens (faulty_token l.fn.counts l.tree) l.row
