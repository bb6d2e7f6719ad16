-- `load_scan::scan::scan_from` meets its contract, by the laws of Turning and an invariant that says: the reader reads this text, and the
-- rest decides as the whole does.
use mathlib.Core.Path.{◌≡◌}
use Prim.Native.Nat.{◌-◌}
use lib.ListN.{length, drop}
use Rattle.text_places.specs.Lines.{lines}
use Rattle.load_scan.specs.Inner.Steps.{scan_on}
use Rattle.load_scan.proofs.Turning.{Turning}
use Rattle.load_scan.proofs.scan.scan_from.Given as goal

abbrev pub invariant-loop-start : goal.invariant-loop-start
invariant-loop-start l = record {
  reads : l.reader.text.now ≡ l.fn.text;
  turns : Turning l.fn.text (scan_on l.fn.before l.fn.has_member (lines (drop l.fn.from l.fn.text))) l.reader.at l.so_far;
}

abbrev pub decreases-loop-start : goal.decreases-loop-start
decreases-loop-start l = length l.fn.text - l.reader.at
