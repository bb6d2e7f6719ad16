-- `name_members::names::display_method_name` meets its contract, by the laws of Answers.
use Rattle.ground.proofs.Outcomes.{with_numbers}
use Rattle.name_members.specs.MemberAnswers.{name_numbers}
use Rattle.name_members.proofs.Answers.{naming}
use Rattle.name_members.proofs.names.display_method_name.Goals as goal

pub name_of_row-requires : goal.name_of_row-requires
name_of_row-requires c = search (naming, c.in_ok-answer.was)
