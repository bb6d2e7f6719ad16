-- `tree_checks::nodes::faulty_parent` meets its contract, by the laws of Checked and an invariant that says: the rows from here on decide
-- as all do.
use Rattle.tree_checks.proofs.Checked.{Asked}
use Prim.Native.Nat.{◌-◌}
use Rattle.tree_rule.specs.Checks.{first_faulty, parent_lower}
use Rattle.tree_checks.proofs.nodes.faulty_parent.Given as goal

abbrev pub invariant-loop-row : goal.invariant-loop-row
invariant-loop-row l = Asked (parent_lower l.tree) l.nodes (first_faulty (parent_lower l.tree) 1 (l.nodes - 1)) l.row
