-- What is written of a token: its row, and the plan of a name that it adds.
use Rattle.std.specs.Prelude.{◌≡◌, List, ◌++◌, ℕ, ◌+◌, ◌*◌, ◌≤◌, ◌<◌, length, Result, Ok, Err}
use Rattle.ground.specs.Put.{put}
use Rattle.tree_rule.specs.declared.TreeCounts.{TreeCounts}
use Rattle.tree_rule.specs.Words.{word_at, word_bytes}
use Rattle.tree_rule.specs.Files.{tokens_start, bytes_start, three_words}
use Rattle.tree_rule.specs.Theorems.{FormedBy}
use Rattle.apply_rule.specs.Applying.{most_tree}
use Rattle.apply_plans.specs.declared.plan.Plan.{Plan}
use Rattle.apply_plans.specs.Inner.Entries.{entry_at}
use Rattle.apply_plans.specs.Inner.Plan.{added, row_by, entry_by, PlanLow}
use Rattle.table_pool.specs.declared.write.NoRoom.{NoRoom}

-- A token row stands at the place `at`, and there is room for the plans of the names so far.
pub record NameReady (c : TreeCounts) (f : List ℕ) (at names : ℕ) (out : List ℕ) : Type 0 where
  pub file : at + 12 ≤ length f
  pub before : at + 12 ≤ bytes_start c
  pub rows : entry_at c names ≤ length out
  pub most : length out ≤ most_tree

-- the row of a token that adds a name, and two numbers
pub record NamePut (more : ℕ) (c : TreeCounts) (f : List ℕ) (at a b names : ℕ) (old new : List ℕ) : Type 0 where
  pub count : more ≡ names + 1
  pub room : entry_at c (names + 1) ≤ length old
  pub is : new ≡ put (put old at (three_words (word_at f at) (word_at f (at + 4)) (c.names + names))) (entry_at c names) (word_bytes a ++ word_bytes b)

pub record NoRow (c : TreeCounts) (names : ℕ) (old : List ℕ) : Type 0 where
  pub over : length old < entry_at c names

abbrev pub NamePutBy : Result ℕ NoRoom → TreeCounts → List ℕ → (at a b names : ℕ) (old new : List ℕ) → Type 0
NamePutBy (Ok more) c f at a b names old new = NamePut more c f at a b names old new
NamePutBy (Err _) c f at a b names old new = NoRow c (names + 1) old

pub record PutReady (c : TreeCounts) (f : List ℕ) (token : ℕ) (p : Plan) (names : ℕ) (out : List ℕ) : Type 0 where
  pub formed : FormedBy c f
  pub inside : token < c.tokens
  pub rows : entry_at c names ≤ length out
  pub most : length out ≤ most_tree
  pub low : PlanLow p

-- the output with both
abbrev pub planned_out : TreeCounts → List ℕ → ℕ → Plan → ℕ → List ℕ → List ℕ
planned_out c f token p names out =
    put (put out (tokens_start c + 12 * token) (row_by p (c.names + names) f (tokens_start c + 12 * token))) (entry_at c names) (entry_by p)

pub record PlanPut (more : ℕ) (c : TreeCounts) (f : List ℕ) (token : ℕ) (p : Plan) (names : ℕ) (old new : List ℕ) : Type 0 where
  pub count : more ≡ names + added p
  pub room : entry_at c (names + added p) ≤ length old
  pub is : new ≡ planned_out c f token p names old

abbrev pub PutBy : Result ℕ NoRoom → TreeCounts → List ℕ → ℕ → Plan → ℕ → (old new : List ℕ) → Type 0
PutBy (Ok more) c f token p names old new = PlanPut more c f token p names old new
PutBy (Err _) c f token p names old new = NoRow c (names + added p) old
