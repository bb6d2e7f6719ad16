-- The promise of applying as one statement, as `Loads` (load/specs/Loads) is of loading: the answer and the output, each by the rule,
-- and the answer as document 01 numbers it. `apply_to_smali` says these three equations in its contract; here they stand for theorems to
-- speak of.
use Rattle.std.specs.Prelude.{◌≡◌, List, ℕ, ◌<◌, length, get_or, Result}
use Rattle.table_rows.specs.Tables.{Tables}
use Rattle.tables.specs.declared.check.Used.{Used}
use Rattle.apply_rule.specs.Theorems.{RowsFit}
use Rattle.apply_rule.specs.Applying.{apply_answer, apply_output, applied_numbers, apply_numbers}
use Rattle.apply_rule.specs.declared.ApplyError.{ApplyError}

-- what applying the tables `t` to a tree file answers, and what it leaves in the output that is lent
pub record Applies (r : Result ℕ ApplyError) (t : Tables) (used : Used) (class file before after : List ℕ) : Type 0 where
  pub answer : r ≡ apply_answer t used class file (length before)
  pub output : after ≡ apply_output t used class file (length before)
  pub numbers : applied_numbers r ≡ apply_numbers t used class file (length before)

-- what the types of rows and bytes say: member rows are of 32-bit numbers, a file is of bytes
pub record Typed (t : Tables) (file : List ℕ) : Type 0 where
  pub rows : RowsFit t.members
  pub bytes : (i : ℕ) → get_or file i 0 < 256
