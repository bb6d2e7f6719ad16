-- `text_utf8::check::check_text` meets its contract, by the laws of Threes and an invariant that says what is done and what is left.
use Prim.Native.Nat.{◌-◌}
use lib.ListN.{length}
use Rattle.text_utf8.proofs.Checking.{Checked}
use Rattle.text_utf8.proofs.check.check_text.Given as goal

abbrev pub invariant-loop-at : goal.invariant-loop-at
invariant-loop-at l = Checked l.s l.at

abbrev pub decreases-loop-at : goal.decreases-loop-at
decreases-loop-at l = length l.s - l.at
