-- A member row on its way.
use Rattle.std.specs.Prelude.{List, ◌++◌, ℕ}
use Rattle.table_rows.specs.declared.rows.Ranges.TheVariants.{None}
use Rattle.table_rows.specs.declared.rows.Member.{Member}
use Rattle.table_rows.specs.Rows.{range_numbers, head_numbers}

-- a member row whose ranges are not put in yet
abbrev pub parts_row : Member → List ℕ
parts_row m = head_numbers m ++ range_numbers None
