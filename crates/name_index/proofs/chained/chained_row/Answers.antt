-- `name_index::chained::chained_row` meets its contract, by the laws of Wanting.
use Rattle.name_index.proofs.Wanting.{chained_wanted}
use Rattle.name_index.proofs.chained.chained_row.Goals as goal

pub offset_bounds-index-mark : goal.offset_bounds-index-mark
offset_bounds-index-mark c = search chained_wanted

pub bounds-index-mark : goal.bounds-index-mark
bounds-index-mark c = search chained_wanted

pub display_of-display-requires : goal.display_of-display-requires
display_of-display-requires c = search chained_wanted

pub walk_wanted-requires : goal.walk_wanted-requires
walk_wanted-requires c = search chained_wanted

pub returns : goal.returns
returns c = search chained_wanted
