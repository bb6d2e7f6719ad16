-- `tree_signature::token::is_descriptor` meets its contract, by the laws of TokenLaws.
use Rattle.tree_signature.proofs.TokenLaws.{token_tests}
use Rattle.tree_signature.proofs.token.is_descriptor.Goals as goal

pub returns-in-Descriptor : goal.returns-in-Descriptor
returns-in-Descriptor c = search token_tests
