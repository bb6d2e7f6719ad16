-- `name_index::lines::line_by_row` meets its contract, by the laws of Lining.
use Rattle.name_index.proofs.Lining.{lining}
use Rattle.name_index.proofs.lines.line_by_row.Goals as goal

pub ranges_of-ranges-requires : goal.ranges_of-ranges-requires
ranges_of-ranges-requires c = search lining

pub returns-then-holds_line : goal.returns-then-holds_line
returns-then-holds_line c = search lining

pub returns-in_err-answer : goal.returns-in_err-answer
returns-in_err-answer c = search lining

pub ranges_of-requires : goal.ranges_of-requires
ranges_of-requires c = search lining

pub returns : goal.returns
returns c = search lining
