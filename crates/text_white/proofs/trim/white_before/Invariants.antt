-- `text_white::trim::white_before` meets its contract, by the laws of Sync and an invariant that says: the rest decides as the whole does.
use Rattle.text_white.proofs.Sync.{Trying}
use Prim.Native.Nat.{◌-◌}
use Rattle.text_white.proofs.trim.white_before.Given as goal

abbrev pub invariant-loop-length : goal.invariant-loop-length
invariant-loop-length l = Trying l.s l.end l.length

abbrev pub decreases-loop-length : goal.decreases-loop-length
decreases-loop-length l = 5 - l.length
