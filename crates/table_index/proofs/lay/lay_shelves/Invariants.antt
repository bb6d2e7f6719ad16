-- `table_index::lay::lay_shelves` meets its contract, by the laws of Laying.
use Rattle.table_index.specs.Inner.Index.{Laid}
use Rattle.table_index.proofs.lay.lay_shelves.Given as goal

abbrev pub invariant-loop-head : goal.invariant-loop-head
invariant-loop-head l = Laid l.initial.index l.count l.index l.head l.start
