use Rattle.name_index.proofs.Linking.{chaining}
use Rattle.name_index.proofs.chains.index_members.Goals as goal

pub loop-row-init : goal.loop-row-init
loop-row-init c = search chaining
