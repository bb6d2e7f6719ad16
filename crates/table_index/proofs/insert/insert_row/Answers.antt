-- `table_index::insert::insert_row` meets its contract, by the laws of Filing.
use Rattle.table_index.proofs.Filing.{filing, shelf_ranked}
use Rattle.table_index.proofs.insert.insert_row.Goals as goal

pub shelf_at-shelf-requires : goal.shelf_at-shelf-requires
shelf_at-shelf-requires c = search filing

pub place_for-place-requires : goal.place_for-place-requires
place_for-place-requires c = let begun = c.before in
    let headed = c.wide_number-head.ensures in
    (shelf_ranked begun.requires.0 begun.requires.1 headed c.shelf_at-shelf.ensures, begun.requires.1)

pub file_row-requires : goal.file_row-requires
file_row-requires c = search filing

pub returns : goal.returns
returns c = search filing
