-- `load_classes::names::opens_no_class` meets its contract, by the laws of Quick.
use Rattle.load_classes.proofs.Quick.{first_bytes}
use Rattle.load_classes.proofs.names.opens_no_class.Goals as goal

pub returns-then-b-eq32 : goal.returns-then-b-eq32
returns-then-b-eq32 c = search first_bytes

pub returns-then-b-eq35 : goal.returns-then-b-eq35
returns-then-b-eq35 c = search first_bytes

pub returns-then-b-eq10 : goal.returns-then-b-eq10
returns-then-b-eq10 c = search first_bytes

pub returns : goal.returns
returns c = search first_bytes
