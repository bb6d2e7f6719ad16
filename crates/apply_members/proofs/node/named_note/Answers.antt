-- `apply_members::node::named_note` meets its contract, by the laws of Signing.
use Rattle.apply_members.proofs.Signing.{owner_noting}
use Rattle.apply_members.proofs.node.named_note.Goals as goal

pub returns-in_default : goal.returns-in_default
returns-in_default c = search owner_noting

pub member_note-requires : goal.member_note-requires
member_note-requires c = search owner_noting

pub returns : goal.returns
returns c = search owner_noting
