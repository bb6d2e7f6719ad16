-- `name_index::chains::index_row` meets its contract, by the laws of Linking.
use Rattle.name_index.proofs.Linking.{chaining}
use Rattle.name_index.proofs.chains.index_row.Goals as goal

pub row_mark-mark-requires : goal.row_mark-mark-requires
row_mark-mark-requires c = search chaining

pub chain_row-requires : goal.chain_row-requires
chain_row-requires c = search chaining

pub returns : goal.returns
returns c = search chaining
