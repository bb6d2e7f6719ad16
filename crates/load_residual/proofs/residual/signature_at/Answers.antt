-- `load_residual::residual::signature_at` meets its contract, by the laws of Giving.
use Rattle.load_residual.proofs.Giving.{giving}
use Rattle.load_residual.proofs.residual.signature_at.Goals as goal

pub signature_between-requires : goal.signature_between-requires
signature_between-requires c = search (giving, c.in_ok-start.was)
