-- `tables::check::text_fine` meets its contract, by the laws of Tested.
use Rattle.tables.proofs.Tested.{text_tests}
use Rattle.tables.proofs.check.text_fine.Goals as goal

pub returns-then-end-ascii : goal.returns-then-end-ascii
returns-then-end-ascii c = search text_tests
