-- `tree_signature::signature::first_of_kind` meets its contract, by the laws of Walks and an invariant that says: the tokens from here on
-- decide as all do.
use Rattle.tree_signature.proofs.Walks.{Walking}
use Prim.Native.Nat.{◌-◌}
use Rattle.tree_rule.specs.Words.{list_from}
use Rattle.tree_rule.specs.Signatures.{first_token}
use Rattle.tree_signature.specs.Inner.Tokens.{of_kind, row_of}
use Rattle.tree_signature.proofs.signature.first_of_kind.Given as goal

abbrev pub invariant-loop-token : goal.invariant-loop-token
invariant-loop-token l = Walking l.tree l.base l.kind l.count (first_token (of_kind l.kind) l.start (list_from (row_of l.tree l.base) l.start (l.count - l.start))) l.token
