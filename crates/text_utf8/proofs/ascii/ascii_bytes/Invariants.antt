-- `text_utf8::ascii::ascii_bytes` meets its contract, by the laws of RunLaws and an invariant that says: the rest decides as the whole
-- does.
use Prim.Native.Nat.{◌-◌}
use lib.ListN.{length}
use Rattle.text_utf8.specs.Inner.Runs.{AsciiTo}
use Rattle.text_utf8.proofs.ascii.ascii_bytes.Given as goal

abbrev pub invariant-loop-at : goal.invariant-loop-at
invariant-loop-at l = AsciiTo l.s l.start l.at
