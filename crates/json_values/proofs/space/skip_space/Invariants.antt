-- `json_values::space::skip_space` meets its contract, by the laws of Spaces and an invariant that says: the rest decides as the whole
-- does.
use Rattle.json_values.proofs.Spaces.{Passing}
use Prim.Native.Nat.{◌-◌}
use lib.ListN.{length}
use Rattle.json_grammar.specs.Reader.{is_ws}
use Rattle.json_values.proofs.space.skip_space.Given as goal

abbrev pub invariant-loop-at : goal.invariant-loop-at
invariant-loop-at l = Passing is_ws l.s l.start l.at

abbrev pub decreases-loop-at : goal.decreases-loop-at
decreases-loop-at l = length l.s - l.at
