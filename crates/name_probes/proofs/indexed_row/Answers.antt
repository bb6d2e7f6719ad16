-- `name_probes::indexed_row` meets its contract, by the laws of Probing.
use Rattle.name_probes.proofs.Probing.{probing_row}
use Rattle.name_probes.proofs.indexed_row.Goals as goal

pub returns-in_err-class : goal.returns-in_err-class
returns-in_err-class c = search (probing_row, c.in_err-class.was)

pub chained_row-requires : goal.chained_row-requires
chained_row-requires c = search probing_row

pub returns : goal.returns
returns c = search (probing_row, c.in_ok-class.was)
