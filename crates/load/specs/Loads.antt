-- The promise of an entry point as one statement: the answer, the class rows, the member rows and the pool, each by the rule of loading,
-- and the answer as document 01 numbers it. `parse` and `parse_str` say these five equations in their contracts; here
-- they stand for theorems to speak of.
use Rattle.std.specs.Prelude.{◌≡◌, List, ℕ, Result}
use Rattle.table_rows.specs.Tables.{Tables}
use Rattle.load_rule.specs.Loading.{lent_of, answer_of, classes_left, members_left, pool_left, load_numbers, numbers_given}
use Rattle.load_rule.specs.declared.Loaded.{Loaded}
use Rattle.load_rule.specs.declared.LoadError.{LoadError}

-- what loading the text `s`, whose lines are `ls`, answers, and what it leaves in the tables that are lent
pub record Loads (r : Result Loaded LoadError) (s : List ℕ) (ls : List (List ℕ)) (before after : Tables) : Type 0 where
  pub answer : r ≡ answer_of s ls (lent_of before)
  pub classes : after.classes ≡ classes_left s ls (lent_of before)
  pub members : after.members ≡ members_left s ls (lent_of before)
  pub pool : after.pool ≡ pool_left s ls (lent_of before)
  pub numbers : load_numbers r ≡ numbers_given s ls (lent_of before)

-- what comes out of a call: its answer, and the tables that were lent as it leaves them
pub record Outcome : Type 0 where
  pub answer : Result Loaded LoadError
  pub after : Tables

abbrev pub outcome : Result Loaded LoadError → Tables → Outcome
outcome r t = record { answer = r; after = t }
