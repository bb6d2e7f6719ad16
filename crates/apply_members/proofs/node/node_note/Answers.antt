-- `apply_members::node::node_note` meets its contract, by the laws of Signing.
use Rattle.apply_members.proofs.Signing.{node_noting}
use Rattle.apply_members.proofs.node.node_note.Goals as goal

pub named_note-note-requires : goal.named_note-note-requires
named_note-note-requires c = search node_noting

pub returns-in-Some : goal.returns-in-Some
returns-in-Some c = search node_noting
