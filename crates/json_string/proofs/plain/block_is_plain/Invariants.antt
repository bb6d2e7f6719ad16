-- `json_string::plain::block_is_plain` meets its contract, by the laws of PlainLaws and an invariant that says what is done and what
-- is left.
use Rattle.json_string.proofs.PlainLaws.{Looked}
use Prim.Native.Nat.{◌-◌}
use Rattle.json_string.proofs.plain.block_is_plain.Given as goal

abbrev pub invariant-loop-i : goal.invariant-loop-i
invariant-loop-i l = Looked l.s l.at l.ends l.escapes l.least l.i
