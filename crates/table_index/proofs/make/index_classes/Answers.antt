-- `table_index::make::index_classes` meets its contract, by the laws of Filing.
use Rattle.table_index.proofs.Filing.{making}
use Rattle.table_index.proofs.Laying.{laid_shelved}
use Rattle.table_index.proofs.make.index_classes.Goals as goal

pub lay_shelves-requires : goal.lay_shelves-requires
lay_shelves-requires c = search making

pub insert_rows-requires : goal.insert_rows-requires
insert_rows-requires c = let grouped = c.group_rows.ensures in
    laid_shelved grouped _ c.lay_shelves.ensures
