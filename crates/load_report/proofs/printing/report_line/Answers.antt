-- `load_report::printing::report_line` meets its contract, by the laws of Bounds.
use Rattle.load_report.proofs.Bounds.{lining}
use Rattle.load_report.proofs.printing.report_line.Goals as goal

pub returns-in-Ok : goal.returns-in-Ok
returns-in-Ok c = search lining

pub returns-in-Err : goal.returns-in-Err
returns-in-Err c = search lining
