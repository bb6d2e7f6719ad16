-- `json_comment::answer::is_residual` meets its contract, by the laws of Answers.
use Rattle.ground.specs.Ascii.{ascii}
use Rattle.json_string.specs.Inner.Plain.{plain_run}
use Rattle.json_comment.proofs.Answers.{ending}
use Rattle.json_comment.proofs.answer.is_residual.Goals as goal

pub stands_for-requires : goal.stands_for-requires
unfolding plain_run
stands_for-requires c = search ending

pub returns : goal.returns
unfolding ascii
returns c = search ending
