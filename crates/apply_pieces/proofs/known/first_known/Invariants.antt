-- `apply_pieces::known::first_known` meets its contract, by the laws of Knowing and an invariant that no piece so far is known.
use Rattle.apply_pieces.proofs.Knowing.{Unknowing}
use Prim.Native.Nat.{◌-◌}
use lib.ListN.{length}
use Rattle.apply_pieces.proofs.known.first_known.Given as goal

abbrev pub invariant-loop-start : goal.invariant-loop-start
invariant-loop-start l = Unknowing l.classes l.pool l.text l.from l.at

abbrev pub decreases-loop-start : goal.decreases-loop-start
decreases-loop-start l = length l.text - l.at
