-- `tables::check::members_fine` meets its contract, by the laws of Tested and an invariant that says what is done and what is left.
use Rattle.tables.proofs.Tested.{Asking}
use Rattle.tables.specs.Check.{member_fine}
use Rattle.tables.proofs.check.members_fine.Given as goal

abbrev pub invariant-loop-row : goal.invariant-loop-row
invariant-loop-row l = Asking (member_fine l.pool l.used) l.members l.row-index
