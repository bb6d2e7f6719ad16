-- The plans of nodes, and of a whole tree.
use Rattle.std.specs.Prelude.{◌≡◌, List, ◌++◌, map, ℕ, ◌+◌, ◌*◌, ◌-◌, ◌≤◌, ◌<◌, length, get_or, drop, Result, Ok, Err}
use Rattle.ground.specs.Join.{join}
use Rattle.ground.specs.Put.{between}
use Rattle.tree_rule.specs.declared.TreeCounts.{TreeCounts}
use Rattle.tree_rule.specs.Words.{word_at, list_from, sum_from}
use Rattle.tree_rule.specs.Trees.{name_in}
use Rattle.tree_rule.specs.Files.{nodes_start, tokens_start, names_start, bytes_start, token_count_at, nodes_from, tree_by, token_row_bytes}
use Rattle.tree_rule.specs.Theorems.{FormedBy}
use Rattle.apply_rule.specs.Changes.{Context, no_method, Changed, changed_nodes}
use Rattle.apply_rule.specs.Applying.{new_names, numbered, all_changed, most_tree}
use Rattle.apply_rule.specs.Inner.Plans.{mapping_in, changes_in}
use Rattle.apply_pieces.specs.Inner.Notes.{NotesTold}
use Rattle.apply_members.specs.declared.node.NodeNote.{NodeNote}
use Rattle.apply_members.specs.Inner.Notes.{context_number}
use Rattle.apply_plans.specs.Inner.Entries.{entry_at, planned_text, planned_names, EntryFits, PlansFit}
use Rattle.apply_plans.specs.Inner.Noted.{context_noted}
use Rattle.apply_plans.specs.Inner.Plan.{TextsLow}
use Rattle.apply_plans.specs.Inner.Put.{NoRow}
use Rattle.apply_plans.specs.Inner.Tokens.{planned_from}
use Rattle.table_pool.specs.declared.write.NoRoom.{NoRoom}

-- A node may be planned, where `names` are planned before.
pub record NodeReady
    (classes rows : List (List ℕ))
    (pool : List ℕ)
    (c : TreeCounts)
    (f : List ℕ)
    (node first count : ℕ)
    (note : NodeNote)
    (names : ℕ)
    (out : List ℕ) : Type 0 where
  pub formed : FormedBy c f
  pub there : node < c.nodes
  pub inside : first + count ≤ c.tokens
  pub few : note.named ≤ length rows
  pub told : NotesTold classes pool c f out
  pub low : TextsLow classes rows
  pub rows_room : entry_at c names ≤ length out
  pub most : length out ≤ most_tree

-- what becomes of the tokens of a node
abbrev pub node_planned : (classes rows : List (List ℕ)) (pool : List ℕ) (c : TreeCounts) (f out : List ℕ) (home node first count : ℕ) → NodeNote →
    List Changed
node_planned classes rows pool c f out home node first count note =
    planned_from classes rows pool c f out home (context_noted f out node note) note.member note.named first count

-- It is planned; the line contexts before, the token rows before, the notes and the plans before are as they were.
pub record NodeTo
    (more : ℕ)
    (classes rows : List (List ℕ))
    (pool : List ℕ)
    (c : TreeCounts)
    (f : List ℕ)
    (home node first count : ℕ)
    (note : NodeNote)
    (names : ℕ)
    (old new : List ℕ) : Type 0 where
  pub size : length new ≡ length old
  pub counted : more ≡ names + length (new_names (node_planned classes rows pool c f old home node first count note))
  pub room : entry_at c more ≤ length old
  pub contexts : (k : ℕ) → k < node → word_at new (nodes_start + 8 * k) ≡ word_at old (nodes_start + 8 * k)
  pub context : word_at new (nodes_start + 8 * node) ≡ context_noted f old node note
  pub earlier : between new (tokens_start c) (tokens_start c + 12 * first) ≡ between old (tokens_start c) (tokens_start c + 12 * first)
  pub tokens : between new (tokens_start c + 12 * first) (tokens_start c + 12 * (first + count)) ≡
      join (map token_row_bytes (numbered (c.names + names) (node_planned classes rows pool c f old home node first count note)))
  pub kept : (p : ℕ) → names_start c ≤ p → p + 4 ≤ entry_at c names → word_at new p ≡ word_at old p
  pub texts : list_from (planned_text classes pool c f new) names
      (length (new_names (node_planned classes rows pool c f old home node first count note))) ≡
      new_names (node_planned classes rows pool c f old home node first count note)
  pub fits : (k : ℕ) → names ≤ k → k < more → EntryFits c new (word_at new (entry_at c k)) (word_at new (entry_at c k + 4))
  pub behind : drop (entry_at c more) new ≡ drop (entry_at c more) old

abbrev pub NodeBy : Result ℕ NoRoom → (classes rows : List (List ℕ)) (pool : List ℕ) (c : TreeCounts) (f : List ℕ) (home node first count : ℕ) → NodeNote → ℕ →
    (old new : List ℕ) → Type 0
NodeBy (Ok more) classes rows pool c f home node first count note names old new =
    NodeTo more classes rows pool c f home node first count note names old new
NodeBy (Err _) classes rows pool c f home node first count note names old new =
    NoRow c (names + length (new_names (node_planned classes rows pool c f old home node first count note))) old

-- All is ready for plans.
pub record PlansReady (classes rows : List (List ℕ)) (pool : List ℕ) (c : TreeCounts) (f out : List ℕ) : Type 0 where
  pub formed : FormedBy c f
  pub file : length f ≤ most_tree
  pub told : NotesTold classes pool c f out
  pub low : TextsLow classes rows
  pub most : length out ≤ most_tree

-- All tokens have their rows, and all names that are added their plans.
pub record PlansMade (names : ℕ) (classes rows : List (List ℕ)) (pool class : List ℕ) (c : TreeCounts) (f old new : List ℕ) : Type 0 where
  pub size : length new ≡ length old
  pub room : entry_at c names ≤ length old
  pub tokens : between new (tokens_start c) (names_start c) ≡
      join (map token_row_bytes (numbered c.names (changes_in classes rows pool class c f)))
  pub kept : (p : ℕ) → names_start c ≤ p → p + 4 ≤ bytes_start c → word_at new p ≡ word_at old p
  pub texts : planned_names classes pool c f new names ≡ new_names (changes_in classes rows pool class c f)
  pub fits : PlansFit c new names
  pub behind : drop (entry_at c names) new ≡ drop (entry_at c names) old

abbrev pub PlansBy : Result ℕ NoRoom → (classes rows : List (List ℕ)) (pool class : List ℕ) (c : TreeCounts) (f old new : List ℕ) → Type 0
PlansBy (Ok names) classes rows pool class c f old new = PlansMade names classes rows pool class c f old new
PlansBy (Err _) classes rows pool class c f old new = NoRow c (length (new_names (changes_in classes rows pool class c f))) old

-- The nodes below `i` are planned, whose tokens are those below `first`: what is left decides as all nodes do.
pub record NodesTo
    (i first names : ℕ)
    (classes rows : List (List ℕ))
    (pool class : List ℕ)
    (c : TreeCounts)
    (f old new : List ℕ) : Type 0 where
  pub inside : i ≤ c.nodes
  pub firsts : first ≡ sum_from (token_count_at f) 0 i
  pub size : length new ≡ length old
  pub contexts : List Context
  pub context_count : length contexts ≡ i
  pub numbers : (k : ℕ) → k < i → word_at new (nodes_start + 8 * k) ≡ context_number classes rows pool class (get_or contexts k no_method)
  pub changed : List Changed
  pub changed_count : length changed ≡ first
  pub rest : changes_in classes rows pool class c f
      ≡ changed ++ all_changed (changed_nodes (mapping_in classes rows pool) class (name_in (tree_by c f)) contexts
      (nodes_from c f i first (c.nodes - i)))
  pub counted : names ≡ length (new_names changed)
  pub room : entry_at c names ≤ length old
  pub tokens : between new (tokens_start c) (tokens_start c + 12 * first) ≡ join (map token_row_bytes (numbered c.names changed))
  pub kept : (p : ℕ) → names_start c ≤ p → p + 4 ≤ bytes_start c → word_at new p ≡ word_at old p
  pub texts : planned_names classes pool c f new names ≡ new_names changed
  pub fits : PlansFit c new names
  pub behind : drop (entry_at c names) new ≡ drop (entry_at c names) old
