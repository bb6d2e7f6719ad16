-- Line contexts while plans are made: the number of each node's stands in its row.
use Rattle.std.specs.Prelude.{List, ℕ, zero, suc, ◌+◌, ◌*◌, ◌≤◌, ◌<◌}
use Rattle.ground.specs.Choice.{pick}
use Rattle.tree_rule.specs.Words.{word_at}
use Rattle.tree_rule.specs.Files.{nodes_start, parent_at}
use Rattle.apply_members.specs.declared.node.NodeNote.{NodeNote}

-- the number of the line context above a node, in the row of its parent
abbrev pub word_above : List ℕ → List ℕ → ℕ → ℕ
word_above f out zero = 0
word_above f out (suc i) = word_at out (nodes_start + 8 * parent_at f (suc i))

-- "any other's a lower row"
pub record ParentBelow (f : List ℕ) (i : ℕ) : Type 0 where
  pub lower : 1 ≤ i → parent_at f i < i

-- the number of the line context of a node
abbrev pub context_noted : List ℕ → List ℕ → ℕ → NodeNote → ℕ
context_noted f out node note = pick note.inherits (word_above f out node) note.lines
