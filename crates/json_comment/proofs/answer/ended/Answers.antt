-- `json_comment::answer::ended` meets its contract, by the laws of Answers.
use Rattle.json_comment.proofs.Answers.{ending}
use Rattle.json_comment.proofs.answer.ended.Goals as goal

pub returns-then-end-s : goal.returns-then-end-s
returns-then-end-s c = search ending
