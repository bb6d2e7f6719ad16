-- `json_values::number::past_digits` meets its contract, by the laws of Numbers and an invariant that says: the rest decides as the
-- whole does.
use Rattle.json_values.proofs.Spaces.{Passing}
use Prim.Native.Nat.{◌-◌}
use lib.ListN.{length}
use Rattle.json_grammar.specs.Reader.{is_digit}
use Rattle.json_values.proofs.number.past_digits.Given as goal

abbrev pub invariant-loop-at : goal.invariant-loop-at
invariant-loop-at l = Passing is_digit l.s l.start l.at
