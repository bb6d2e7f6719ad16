-- `apply_members::node::raw_number` meets its contract, by the laws of Naming.
use Rattle.apply_members.proofs.Naming.{raw_numbers_lem}
use Rattle.apply_members.proofs.node.raw_number.Goals as goal

pub returns : goal.returns
returns c = search raw_numbers_lem
