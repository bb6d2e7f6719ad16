-- `apply_pieces::rows::longest_raw` meets its contract, by the laws of Lookups and an invariant that no row so far is longer.
use Rattle.apply_pieces.proofs.Lookups.{Measuring}
use Rattle.apply_pieces.proofs.rows.longest_raw.Given as goal

abbrev pub invariant-loop-row : goal.invariant-loop-row
invariant-loop-row l = Measuring l.classes l.pool l.longest l.row
