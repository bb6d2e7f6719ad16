-- `name_index::chained::walk_wanted` meets its contract, by the laws of Wanting and an invariant that says what is done and what is left.
use lib.ListN.{get_or}
use mathlib.Core.List.{[]}
use Rattle.ground.specs.Look.{known}
use Rattle.table_rows.specs.Rows.{unpack_class}
use Rattle.tables.specs.Back.{text_in}
use Rattle.name_index.specs.Inner.Chains.{Walked}
use Rattle.name_index.proofs.chained.walk_wanted.Given as goal

abbrev pub invariant-loop-count : goal.invariant-loop-count
invariant-loop-count l = Walked l.classes l.pool l.members l.field (known l.display) (text_in l.pool (unpack_class (get_or l.classes l.class [])).raw) l.name l.descriptor l.any l.count

abbrev pub decreases-loop-count : goal.decreases-loop-count
decreases-loop-count l = l.count
