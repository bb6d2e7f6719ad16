-- `tree_signature::signature::node_signature` meets its contract, by the laws of Signing.
use Rattle.tree_signature.proofs.Signing.{signing}
use Rattle.tree_signature.proofs.signature.node_signature.Goals as goal

pub returns-in_err-member : goal.returns-in_err-member
returns-in_err-member c = search (signing, c.in_err-member.was)

pub overflow_add-member : goal.overflow_add-member
overflow_add-member c = search signing

pub returns-in_err-descriptor : goal.returns-in_err-descriptor
returns-in_err-descriptor c = search (signing, c.in_ok-member.was, c.in_err-descriptor.was)

pub overflow_add-result : goal.overflow_add-result
overflow_add-result c = search signing

pub overflow_add-result-2 : goal.overflow_add-result-2
overflow_add-result-2 c = search signing

pub owner_before-requires : goal.owner_before-requires
owner_before-requires c = search signing

pub returns : goal.returns
returns c = search (signing, c.in_ok-member.was, c.in_ok-descriptor.was)
