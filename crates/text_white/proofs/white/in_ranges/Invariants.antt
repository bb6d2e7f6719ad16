-- `text_white::white::in_ranges` meets its contract, by the laws of Ranges and an invariant that says: the rest decides as the whole does.
use Rattle.text_white.proofs.Ranges.{Ranging}
use Prim.Native.Nat.{◌-◌}
use lib.ListN.{length}
use Rattle.text_white.proofs.white.in_ranges.Given as goal

abbrev pub invariant-loop-i : goal.invariant-loop-i
invariant-loop-i l = Ranging l.table l.code l.i

abbrev pub decreases-loop-i : goal.decreases-loop-i
decreases-loop-i l = length l.table - l.i
