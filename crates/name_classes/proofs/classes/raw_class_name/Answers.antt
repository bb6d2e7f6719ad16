-- `name_classes::classes::raw_class_name` meets its contract, by the laws of Looking.
use Rattle.ground.proofs.Outcomes.{with_numbers}
use Rattle.name_classes.specs.ClassNames.{class_name_numbers}
use Rattle.name_classes.proofs.Looking.{turning}
use Rattle.name_classes.proofs.classes.raw_class_name.Goals as goal

pub class_at-requires : goal.class_at-requires
class_at-requires c = search turning
