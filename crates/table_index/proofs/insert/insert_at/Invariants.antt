-- `table_index::insert::insert_at` meets its contract, by the laws of Shifting.
use Rattle.table_index.proofs.Shifting.{Shifting}
use Rattle.table_index.proofs.insert.insert_at.Given as goal

abbrev pub invariant-loop-i : goal.invariant-loop-i
invariant-loop-i l = Shifting l.initial.index l.index l.place l.end l.i

abbrev pub decreases-loop-i : goal.decreases-loop-i
decreases-loop-i l = l.i
