-- What is lent and read: class rows, member rows and the pool, as they stand.
use Rattle.std.specs.Prelude.{List, ℕ}

pub record Tables : Type 0 where
  pub classes : List (List ℕ)
  pub members : List (List ℕ)
  pub pool : List ℕ

abbrev pub tables : List (List ℕ) → List (List ℕ) → List ℕ → Tables
tables c m p = record { classes = c; members = m; pool = p }
