-- `load_report::printing::add_rows` meets its contract, by the laws of Adding.
use Rattle.load_report.proofs.Adding.{adds_adds}
use Rattle.ground.specs.Ascii.{ascii}
use Rattle.load_report.proofs.printing.add_rows.Goals as goal

pub returns : goal.returns
unfolding ascii
returns c = adds_adds c.add_item-class.ensures (adds_adds c.add_item-field.ensures (adds_adds c.add_item-method.ensures c.add_item.ensures))
