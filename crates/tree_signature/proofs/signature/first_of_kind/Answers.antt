use Rattle.tree_signature.proofs.Walks.{walking}
use Rattle.tree_signature.proofs.signature.first_of_kind.Goals as goal

pub returns-then-word_at-kind : goal.returns-then-word_at-kind
returns-then-word_at-kind c = search walking

pub loop-token-preserved : goal.loop-token-preserved
loop-token-preserved c = search walking

pub returns : goal.returns
returns c = search walking
