-- `table_rows::zero::zero_members` meets its contract, by the law of Zeroing.
use Rattle.table_rows.specs.Rows.{zero_member}
use Rattle.table_rows.proofs.Zeroing.{row_copied}
use Rattle.table_rows.proofs.zero.zero_members.Goals as goal

pub returns : goal.returns
returns c = c.fill.ensures.after (λ y h. row_copied zero_member y h.whole)
