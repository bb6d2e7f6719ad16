-- `text_parts::reach::valid_to` meets its contract, by the laws of Marking.
use Rattle.text_parts.proofs.Marking.{validating}
use Rattle.text_parts.proofs.reach.valid_to.Goals as goal

pub overflow_add-result : goal.overflow_add-result
overflow_add-result c = search validating
