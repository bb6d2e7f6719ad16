-- `tree_checks::names::faulty_among` meets its contract, by the laws of Checked and an invariant that says what is done and what is left.
use Rattle.tree_checks.proofs.Checked.{Asked}
use Rattle.tree_rule.specs.Checks.{name_utf8, faulty_text}
use Rattle.tree_checks.proofs.names.faulty_among.Given as goal

abbrev pub invariant-loop-row : goal.invariant-loop-row
invariant-loop-row l = Asked (name_utf8 l.fn.counts l.tree) l.fn.counts.names (faulty_text l.fn.counts l.tree) l.row
