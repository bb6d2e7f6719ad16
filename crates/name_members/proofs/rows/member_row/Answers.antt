-- `name_members::rows::member_row` meets its contract, by the laws of Asking.
use Rattle.name_members.proofs.Asking.{asking}
use Rattle.name_members.proofs.rows.member_row.Goals as goal

pub returns-in_err-row : goal.returns-in_err-row
returns-in_err-row c = search asking

pub display_of-display-requires : goal.display_of-display-requires
display_of-display-requires c = search asking

pub returns-then-is_method_asked : goal.returns-then-is_method_asked
returns-then-is_method_asked c = search (asking, c.in_ok-row.was)

pub returns-in_default : goal.returns-in_default
returns-in_default c = search asking

pub returns : goal.returns
returns c = search (asking, c.in_ok-row.was)
