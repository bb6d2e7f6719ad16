-- What the check of texts rests on.
use Rattle.std.specs.Prelude.{◌≡◌, List, ℕ, ◌+◌, ◌≤◌, ◌<◌, length}
use Rattle.tree_rule.specs.declared.TreeCounts.{TreeCounts}
use Rattle.tree_rule.specs.Files.{file_length, name_at}

-- the length agrees, and every name lies in the name bytes
pub record NamesLie (c : TreeCounts) (f : List ℕ) : Type 0 where
  pub size : length f ≡ file_length c
  pub lie : (i : ℕ) → i < c.names → (name_at c f i).place + (name_at c f i).length ≤ c.bytes
