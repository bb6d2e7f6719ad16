-- `text_utf8::sequence::tails_at` meets its contract, by the laws of Sequences and an invariant that says: the rest decides as the whole
-- does.
use Rattle.text_utf8.proofs.Sequences.{Tailing}
use Prim.Native.Nat.{◌-◌}
use Rattle.text_utf8.proofs.sequence.tails_at.Given as goal

abbrev pub invariant-loop-taken : goal.invariant-loop-taken
invariant-loop-taken l = Tailing l.s l.at l.octets l.least l.greatest l.bits l.low l.high l.code l.taken

abbrev pub decreases-loop-taken : goal.decreases-loop-taken
decreases-loop-taken l = l.octets - l.taken
