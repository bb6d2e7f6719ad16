-- `json_string::string::string_end` meets its contract, by the laws of Strings and an invariant that says: the rest decides as the
-- whole does.
use Rattle.json_string.proofs.Strings.{Stringing}
use Prim.Native.Nat.{◌-◌}
use lib.ListN.{length}
use Rattle.json_string.proofs.string.string_end.Given as goal

abbrev pub invariant-loop-at : goal.invariant-loop-at
invariant-loop-at l = Stringing l.s l.start l.at

abbrev pub decreases-loop-at : goal.decreases-loop-at
decreases-loop-at l = length l.s - l.at
