-- `name_index::chains::index_members` meets its contract, by the laws of Linking and an invariant that says what is done and what is
-- left.
use Rattle.name_index.proofs.Linking.{Indexing}
use Rattle.name_index.proofs.chains.index_members.Given as goal

abbrev pub invariant-loop-row : goal.invariant-loop-row
invariant-loop-row l = Indexing l.classes l.pool l.members l.index l.kept l.row
