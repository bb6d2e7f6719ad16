-- `load_report::printing::put_refused` meets its contract, by the laws of Adding.
use Rattle.load_report.proofs.Adding.{adds_adds, first_of_all}
use Rattle.ground.specs.Ascii.{ascii}
use Rattle.load_report.proofs.printing.put_refused.Goals as goal

pub returns : goal.returns
unfolding ascii
returns c = first_of_all (adds_adds c.add_item-refused.ensures (adds_adds c.add_item-lined.ensures c.add_text.ensures))
