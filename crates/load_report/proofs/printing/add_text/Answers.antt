-- `load_report::printing::add_text` meets its contract, by the laws of Adding.
use Rattle.load_report.proofs.Adding.{adding}
use Rattle.load_report.proofs.printing.add_text.Goals as goal

pub returns : goal.returns
returns c = search (adding, c.in_ok-at.was)

pub returns-in_err-at : goal.returns-in_err-at
returns-in_err-at c = search (adding, c.in_err-at.was)
