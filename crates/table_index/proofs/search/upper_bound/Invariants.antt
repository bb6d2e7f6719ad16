-- `table_index::search::upper_bound` meets its contract, by the laws of Halving.
use Rattle.table_index.proofs.Halving.{Halving}
use Prim.Native.Nat.{◌-◌}
use Rattle.table_index.specs.Inner.Keys.{keys_of}
use Rattle.table_index.specs.Inner.Forms.{spelled}
use Rattle.table_index.proofs.search.upper_bound.Given as goal

abbrev pub invariant-loop-low : goal.invariant-loop-low
invariant-loop-low l = Halving (keys_of l.side l.classes l.pool) l.index l.start l.end (spelled l.form l.name) l.low l.high

abbrev pub decreases-loop-low : goal.decreases-loop-low
decreases-loop-low l = l.high - l.low
