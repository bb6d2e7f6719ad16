-- `table_index::rows::row_text` meets its contract, by the laws of Keys.
use Rattle.table_index.proofs.Keys.{row_texts}
use Rattle.table_index.proofs.rows.row_text.Goals as goal

pub returns : goal.returns
returns c = search row_texts
