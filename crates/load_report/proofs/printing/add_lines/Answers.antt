-- `load_report::printing::add_lines` meets its contract, by the laws of Adding.
use Rattle.load_report.proofs.Adding.{adds_adds}
use Rattle.ground.specs.Ascii.{ascii}
use Rattle.load_report.proofs.printing.add_lines.Goals as goal

pub returns : goal.returns
unfolding ascii
returns c = adds_adds c.add_item-lines.ensures (adds_adds c.add_item-blank.ensures (adds_adds c.add_item-applied.ensures c.add_item.ensures))
