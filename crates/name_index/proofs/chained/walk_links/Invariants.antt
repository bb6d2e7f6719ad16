-- `name_index::chained::walk_links` meets its contract, by the laws of Walking and an invariant that says what is done and what is left.
use Rattle.ground.specs.Look.{known}
use Rattle.name_index.specs.Inner.Chains.{Behind}
use Rattle.name_index.proofs.chained.walk_links.Given as goal

abbrev pub invariant-loop-count : goal.invariant-loop-count
invariant-loop-count l = Behind l.classes l.pool l.members l.sought (known l.display) l.owner l.name l.descriptor l.count

abbrev pub decreases-loop-count : goal.decreases-loop-count
decreases-loop-count l = l.count
