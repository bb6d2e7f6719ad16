-- `line_parts::signature::owner_and_name` meets its contract, by the laws of Members.
use Rattle.line_parts.proofs.Members.{naming}
use Rattle.line_parts.proofs.signature.owner_and_name.Goals as goal

pub overflow_add-result : goal.overflow_add-result
overflow_add-result c = search naming
