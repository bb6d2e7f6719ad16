-- `table_index::blocks::block_differs` meets its contract, by the laws of Skipping.
use Rattle.table_index.proofs.Skipping.{Passing}
use Prim.Native.Nat.{◌-◌}
use Rattle.table_index.proofs.blocks.block_differs.Given as goal

abbrev pub invariant-loop-i : goal.invariant-loop-i
invariant-loop-i l = Passing l.text l.at l.name l.from l.dots l.differs l.i

abbrev pub decreases-loop-i : goal.decreases-loop-i
decreases-loop-i l = 16 - l.i
