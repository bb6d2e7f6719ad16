-- `tree_words::rows::name_text` meets its contract, by the laws of Wording.
use Rattle.tree_words.proofs.Wording.{naming}
use Rattle.tree_words.proofs.rows.name_text.Goals as goal

pub names_start-requires : goal.names_start-requires
names_start-requires c = search naming

pub overflow_mul-name : goal.overflow_mul-name
overflow_mul-name c = search naming

pub overflow_add-names_start : goal.overflow_add-names_start
overflow_add-names_start c = search naming

pub name_row-row-requires : goal.name_row-row-requires
name_row-row-requires c = search naming

pub name_bytes-requires : goal.name_bytes-requires
name_bytes-requires c = search naming

pub text_in-requires : goal.text_in-requires
text_in-requires c = search naming

pub returns : goal.returns
returns c = search naming
