-- `apply_pieces::ahead::seek_known` meets its contract, by the laws of AheadLaws and an invariant that what is first from here on is first.
use Rattle.apply_pieces.proofs.AheadLaws.{SoughtTo}
use Prim.Native.Nat.{◌-◌}
use Rattle.apply_pieces.proofs.ahead.seek_known.Given as goal

abbrev pub invariant-loop-open : goal.invariant-loop-open
invariant-loop-open l = SoughtTo l.classes l.pool l.text l.from l.at l.stop

abbrev pub decreases-loop-open : goal.decreases-loop-open
decreases-loop-open l = l.stop - l.at
