-- What is planned for a new name, by the two numbers that stand in the place of its row.
use Rattle.std.specs.Prelude.{List, ℕ, zero, suc, ◌+◌, ◌*◌, ◌-◌, ◌≤◌, length}
use Rattle.tree_rule.specs.declared.TreeCounts.{TreeCounts}
use Rattle.tree_rule.specs.Words.{word_at}
use Rattle.tree_rule.specs.Files.{names_start}
use Rattle.apply_plans.specs.Inner.Entries.{entry_at, EntryFits}
use Rattle.apply_output.specs.declared.plan.Plan.{Plan}
use Rattle.apply_output.specs.declared.plan.Plan.TheVariants.{InPool, Shown}

-- the two numbers of the new name `k` are there, and so is a name of the tree that they mean
pub record PlanReady (c : TreeCounts) (out : List ℕ) (k : ℕ) : Type 0 where
  pub room : entry_at c k + 8 ≤ length out
  pub fits : EntryFits c out (word_at out (entry_at c k)) (word_at out (entry_at c k + 4))

-- of a name of the tree, by its note
abbrev pub plan_by : TreeCounts → List ℕ → ℕ → ℕ → Plan
plan_by c out zero name = Shown name (word_at out (names_start c + 8 * name) - 1) (word_at out (names_start c + 8 * name + 4))
plan_by c out (suc place) size = InPool place size

unfoldable pub plan_at : TreeCounts → List ℕ → ℕ → Plan
plan_at c out k = plan_by c out (word_at out (entry_at c k)) (word_at out (entry_at c k + 4))
