-- Answers as numbers.
use Rattle.std.specs.Prelude.{ℕ, ◌+◌, ◌%◌, Option, Some, None, Result, Ok, Err}
use Rattle.tables.specs.declared.check.Malformed.{Malformed}

abbrev pub row_number : Option ℕ → ℕ
row_number (Some i) = i % 4294967296 + 2
row_number None = 1

abbrev pub answer_number : Result (Option ℕ) Malformed → ℕ
answer_number (Ok found) = row_number found
answer_number (Err _) = 0
