-- `name_members::names::answering_row` meets its contract, by the laws of Answers.
use Rattle.name_members.proofs.Answers.{answers}
use Rattle.name_members.proofs.names.answering_row.Goals as goal

pub overflow_cast-result : goal.overflow_cast-result
overflow_cast-result c = search answers
