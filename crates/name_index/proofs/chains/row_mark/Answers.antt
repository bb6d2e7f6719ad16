-- `name_index::chains::row_mark` meets its contract, by the laws of Linking.
use Rattle.name_index.proofs.Linking.{row_marking}
use Rattle.name_index.proofs.chains.row_mark.Goals as goal

pub mark_from-requires : goal.mark_from-requires
mark_from-requires c = search row_marking
