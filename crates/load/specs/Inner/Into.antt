-- Loading a text whose UTF-8 and length are checked, into rows and a pool of at most the largest size.
use Rattle.std.specs.Prelude.{◌≡◌, true, List, ℕ, ◌+◌, ◌≤◌, eqb, ltb, length, Result, Ok, Err}
use Rattle.ground.specs.Choice.{pick}
use Rattle.ground.specs.Put.{put}
use Rattle.load_rule.specs.declared.Fates.{Fates}
use Rattle.load_rule.specs.Loading.{lent, lines_load, is_loaded, pool_of, class_rows_of, member_rows_of, most_text}
use Rattle.table_rows.specs.Rows.{most_members, most_classes, most_pool}
use Rattle.load_rule.specs.declared.Fault.{Fault}
use Rattle.load_rule.specs.declared.Loaded.{Loaded}
use Rattle.load_rule.specs.declared.LoadError.{LoadError}
use Rattle.load_rule.specs.declared.LoadError.TheVariants.{Faulty, NoClasses, FewClassRows, FewMemberRows, ShortPool}
use Rattle.load_rule.specs.Fates.{fault_at, loaded_with}

-- the sizes of a text and of what is lent, at most the largest ones
pub record Limits (s c m p : ℕ) : Type 0 where
  pub text : s ≤ most_text
  pub classes : c ≤ most_classes
  pub members : m ≤ most_members
  pub pool : p ≤ most_pool

-- the counts of members can be added
abbrev pub Counted : Result Fates Fault → Type 0
Counted (Ok f) = f.field + f.method ≤ most_text
Counted (Err r) = Unit {0}

-- "then 3 to 7 for the first faulty line ..., then 8, 9, 10, 11", where all does not fit
abbrev pub missing : Fates → ℕ → ℕ → Result Loaded LoadError
missing f c m =
    pick (eqb f.class 0) (Err NoClasses)
    (pick (ltb c f.class) (Err FewClassRows)
    (pick (ltb m (f.field + f.method)) (Err FewMemberRows) (Err ShortPool)))

abbrev pub refused_of : Result Fates Fault → ℕ → ℕ → Result Loaded LoadError
refused_of (Err r) c m = Err (Faulty (fault_at r.number r.line))
refused_of (Ok f) c m = missing f c m

-- and where it does
abbrev pub accepted_of : Fates → ℕ → Result Loaded LoadError
accepted_of f names = pick (eqb f.class 0) (Err NoClasses) (Ok (loaded_with f names))

-- the rows and the texts of the lines `ls` are written
pub record Full (ls : List (List ℕ)) (c m : List (List ℕ)) (p : List ℕ) (c₁ m₁ : List (List ℕ)) (p₁ : List ℕ) : Type 0 where
  pub class_room : length (class_rows_of ls) ≤ length c
  pub member_room : length (member_rows_of ls) ≤ length m
  pub pool_room : length (pool_of ls) ≤ length p
  pub classes : c₁ ≡ put c 0 (class_rows_of ls)
  pub members : m₁ ≡ put m 0 (member_rows_of ls)
  pub pool : p₁ ≡ put p 0 (pool_of ls)

-- the answer, and, where the text is loaded, the rows and the pool
pub record IntoBy (r : Result Loaded LoadError) (ls : List (List ℕ)) (c m : List (List ℕ)) (p : List ℕ) (c₁ m₁ : List (List ℕ)) (p₁ : List ℕ) : Type 0 where
  pub answer : r ≡ lines_load ls (lent (length c) (length m) (length p))
  pub full : is_loaded r ≡ true → Full ls c m p c₁ m₁ p₁
