-- `load_raw_types::types::first_place` meets its contract, by the laws of Turned.
use Rattle.load_raw_types.proofs.Turned.{standing}
use Rattle.load_raw_types.proofs.types.first_place.Goals as goal

pub returns-then-s-eq0 : goal.returns-then-s-eq0
returns-then-s-eq0 c = search standing

pub returns-then-s-b : goal.returns-then-s-b
returns-then-s-b c = search standing
