-- `name_classes::classes::mapped_class_name` meets its contract, by the laws of Looking.
use Rattle.name_classes.proofs.Looking.{mapping}
use Rattle.name_classes.proofs.classes.mapped_class_name.Goals as goal

pub returns-in_default : goal.returns-in_default
returns-in_default c = search mapping

pub class_at-requires : goal.class_at-requires
class_at-requires c = search mapping

pub returns : goal.returns
returns c = search mapping
