-- `tree_checks::names::faulty_name` meets its contract, by the laws of Checked and an invariant that says: the rows from here on decide
-- as all do.
use Rattle.tree_checks.proofs.Checked.{Asked}
use Rattle.tree_rule.specs.Checks.{name_inside, faulty_name}
use Rattle.tree_checks.proofs.names.faulty_name.Given as goal

abbrev pub invariant-loop-row : goal.invariant-loop-row
invariant-loop-row l = Asked (name_inside l.counts l.tree) l.names (faulty_name l.counts l.tree) l.row
