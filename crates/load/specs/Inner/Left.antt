-- What is left in the lent rows and the pool, where so many rows and bytes are lent.
use Rattle.std.specs.Prelude.{◌≡◌, List, ℕ, replicate, Result}
use Rattle.table_rows.specs.Rows.{zero_class, zero_member}
use Rattle.load_rule.specs.Loading.{lent, counting, lines_load, leaves, class_rows_of, member_rows_of, pool_of, answer_of, classes_left, members_left, pool_left}
use Rattle.load_rule.specs.declared.Loaded.{Loaded}
use Rattle.load_rule.specs.declared.LoadError.{LoadError}

-- all is zero
pub record Cleared (nc nm np : ℕ) (c m : List (List ℕ)) (p : List ℕ) : Type 0 where
  pub classes : c ≡ replicate nc zero_class
  pub members : m ≡ replicate nm zero_member
  pub pool : p ≡ replicate np 0

-- what loading the lines `ls` answers and leaves, where so many rows and bytes are lent
pub record Left (r : Result Loaded LoadError) (ls : List (List ℕ)) (nc nm np : ℕ) (c m : List (List ℕ)) (p : List ℕ) : Type 0 where
  pub answer : r ≡ lines_load ls (counting (lent nc nm np))
  pub classes : c ≡ leaves zero_class nc r (class_rows_of ls)
  pub members : m ≡ leaves zero_member nm r (member_rows_of ls)
  pub pool : p ≡ leaves 0 np r (pool_of ls)

-- what loading the text `s`, whose lines are `ls`, answers and leaves
pub record Leaving (r : Result Loaded LoadError) (s : List ℕ) (ls : List (List ℕ)) (nc nm np : ℕ) (c m : List (List ℕ)) (p : List ℕ) : Type 0 where
  pub answer : r ≡ answer_of s ls (lent nc nm np)
  pub classes : c ≡ classes_left s ls (lent nc nm np)
  pub members : m ≡ members_left s ls (lent nc nm np)
  pub pool : p ≡ pool_left s ls (lent nc nm np)
