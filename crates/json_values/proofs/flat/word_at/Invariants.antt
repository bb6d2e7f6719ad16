-- `json_values::flat::word_at` meets its contract, by the laws of Flats and an invariant that says: the rest decides as the whole does.
use Rattle.json_values.proofs.Flats.{Wording}
use Prim.Native.Nat.{◌-◌}
use lib.ListN.{length}
use Rattle.json_values.proofs.flat.word_at.Given as goal

abbrev pub invariant-loop-i : goal.invariant-loop-i
invariant-loop-i l = Wording l.s l.at l.word l.i
