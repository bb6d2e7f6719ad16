-- `replay::hex::read_bytes`: bytes are filled from the start.
use Rattle.replay.proofs.Digits.{Filling}
use Prim.Native.Nat.{◌-◌, ◌+◌}
use lib.ListN.{length}
use Rattle.replay.proofs.hex.read_bytes.Given as goal

abbrev pub invariant-loop-at : goal.invariant-loop-at
invariant-loop-at l = Filling l.line l.gap l.initial.bytes l.bytes l.n l.at

abbrev pub decreases-loop-at : goal.decreases-loop-at
decreases-loop-at l = (length l.line + 3) - l.at
