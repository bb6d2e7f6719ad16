-- `name_members::names::display_line` meets its contract, by the laws of Answers.
use Rattle.ground.proofs.Outcomes.{with_numbers}
use Rattle.name_members.specs.MemberAnswers.{line_numbers}
use Rattle.name_members.proofs.Answers.{lining}
use Rattle.name_members.proofs.names.display_line.Goals as goal

pub line_of_row-requires : goal.line_of_row-requires
line_of_row-requires c = search (lining, c.in_ok-answer.was)
