-- `table_index::forms::past_alike` meets its contract, by the laws of Spelling.
use Rattle.table_index.proofs.Spelling.{past_alike}
use Rattle.table_index.proofs.forms.past_alike.Goals as goal

pub returns : goal.returns
returns c = search past_alike
