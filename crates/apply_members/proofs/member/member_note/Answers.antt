-- `apply_members::member::member_note` meets its contract, by the laws of Noting.
use Rattle.apply_members.proofs.Noting.{member_noting}
use Rattle.apply_members.proofs.member.member_note.Goals as goal

pub method_note-requires : goal.method_note-requires
method_note-requires c = search member_noting

pub returns-then-method : goal.returns-then-method
returns-then-method c = search member_noting

pub row_number-requires : goal.row_number-requires
row_number-requires c = search member_noting
