-- `load::fill::fill_members` meets its contract, by the laws of Writing.
use Rattle.load.proofs.Writing.{few_filled}
use Rattle.load.proofs.fill.fill_members.Goals as goal

pub fill_indexed-requires : goal.fill_indexed-requires
fill_indexed-requires c = search few_filled

pub shape_of-members-then-classes-gt-FEW : goal.shape_of-members-then-classes-gt-FEW
shape_of-members-then-classes-gt-FEW c = search few_filled

pub shape_of-pool-then-classes-gt-FEW : goal.shape_of-pool-then-classes-gt-FEW
shape_of-pool-then-classes-gt-FEW c = search few_filled

pub returns-then-classes-gt-FEW : goal.returns-then-classes-gt-FEW
returns-then-classes-gt-FEW c = search few_filled

pub slice_bounds-write_members-end : goal.slice_bounds-write_members-end
slice_bounds-write_members-end c = search few_filled

pub write_members-requires : goal.write_members-requires
write_members-requires c = search few_filled

pub shape_of-members : goal.shape_of-members
shape_of-members c = search few_filled

pub shape_of-pool : goal.shape_of-pool
shape_of-pool c = search few_filled

pub returns : goal.returns
returns c = search few_filled
