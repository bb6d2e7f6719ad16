-- `table_index::search::last_of_few` meets its contract, by the laws of Searching.
use Rattle.table_index.proofs.Searching.{Trying}
use Prim.Native.Nat.{◌-◌}
use Rattle.table_index.specs.Inner.Keys.{keys_of}
use Rattle.table_index.specs.Inner.Forms.{spelled}
use Rattle.table_index.proofs.search.last_of_few.Given as goal

abbrev pub invariant-loop-after : goal.invariant-loop-after
invariant-loop-after l = Trying (keys_of l.side l.classes l.pool) l.index l.start l.end (spelled l.form l.name) l.after

abbrev pub decreases-loop-after : goal.decreases-loop-after
decreases-loop-after l = l.after - l.start
