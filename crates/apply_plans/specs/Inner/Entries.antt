-- Plans of the names that are added: while the output is being made, two numbers stand in the place of each new name row.
use Rattle.std.specs.Prelude.{List, ℕ, zero, suc, ◌+◌, ◌*◌, ◌<◌}
use Rattle.table_rows.specs.Rows.{text}
use Rattle.tables.specs.Back.{text_in}
use Rattle.tree_rule.specs.declared.TreeCounts.{TreeCounts}
use Rattle.tree_rule.specs.Words.{word_at, list_from}
use Rattle.tree_rule.specs.Files.{names_start, bytes_start, text_at}
use Rattle.apply_pieces.specs.Inner.Known.{all_shown}

-- The text that two numbers stand for: one of the pool, by one more than its place and by its length; or, behind a 0, a name of the tree
-- with its known pieces shown.
abbrev pub entry_text : (classes : List (List ℕ)) (pool : List ℕ) (c : TreeCounts) (f : List ℕ) → ℕ → ℕ → List ℕ
entry_text classes pool c f zero name = all_shown classes pool (text_at c f name)
entry_text classes pool c f (suc place) size = text_in pool (text place size)

-- where the numbers of the new name `k` stand
abbrev pub entry_at : TreeCounts → ℕ → ℕ
entry_at c k = bytes_start c + 8 * k

unfoldable pub planned_text : (classes : List (List ℕ)) (pool : List ℕ) (c : TreeCounts) (f out : List ℕ) → ℕ → List ℕ
planned_text classes pool c f out k = entry_text classes pool c f (word_at out (entry_at c k)) (word_at out (entry_at c k + 4))

-- the texts of the new names below `n`
abbrev pub planned_names : (classes : List (List ℕ)) (pool : List ℕ) (c : TreeCounts) (f out : List ℕ) → ℕ → List (List ℕ)
planned_names classes pool c f out n = list_from (planned_text classes pool c f out) 0 n

-- a name of the tree that is meant is there, and has a known piece
abbrev pub EntryFits : TreeCounts → List ℕ → ℕ → ℕ → Type 0
EntryFits c out zero name = (name < c.names) × (0 < word_at out (names_start c + 8 * name))
EntryFits c out (suc place) size = 0 < suc place

-- so of the new names below `n`
pub record PlansFit (c : TreeCounts) (out : List ℕ) (n : ℕ) : Type 0 where
  pub fits : (k : ℕ) → k < n → EntryFits c out (word_at out (entry_at c k)) (word_at out (entry_at c k + 4))
