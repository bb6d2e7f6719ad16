-- `load_scan::scan::scan_line` meets its contract, by the laws of Turning.
use Rattle.load_scan.proofs.Turning.{turning}
use Rattle.load_scan.proofs.scan.scan_line.Goals as goal

pub returns-in-Passed : goal.returns-in-Passed
returns-in-Passed c = search turning

pub returns-in-Line : goal.returns-in-Line
returns-in-Line c = search turning
