-- The nodes and names of a tree that was read, by their rows in the file. Assumes nothing.
use mathlib.Core.Path.{◌≡◌, sym, ◌∙◌, ap}
use mathlib.Core.List.{List}
use Prim.Native.Nat.{ℕ, zero, suc, ◌+◌, ◌-◌, ◌≤◌, ◌<◌}
use native.Mathlib.Nat.{not-suc-le-zero}
use native.Mathlib.Omega.{arith}
use lib.ListN.{length, get_or, take, drop, length-drop}
use Rattle.ground.proofs.Parts.{take_rest}
use Rattle.table_rows.specs.Rows.{text}
use Rattle.tables.specs.Back.{text_in}
use Rattle.tree_rule.specs.declared.TreeCounts.{TreeCounts}
use Rattle.tree_rule.specs.declared.Token.TheVariants.{Descriptor}
use Rattle.tree_rule.specs.Words.{list_from, sum_from}
use Rattle.tree_rule.specs.Trees.{Node, name_in}
use Rattle.tree_rule.specs.Files.{
  bytes_start,
  file_length,
  parent_at,
  token_count_at,
  token_at,
  name_at,
  bytes_in,
  text_at,
  parent_by,
  nodes_from,
  tree_by,
}
use Rattle.tree_rule.specs.Theorems.{FormedBy, NamesBelow}
use Rattle.tree_rule.proofs.RowLaws.{list_at, sum_append, sum_less}

-- the name bytes of a file whose length agrees are all that is left
module _ (c : TreeCounts) (f : List ℕ) (e : length f ≡ file_length c) where
  pub bytes_rest : bytes_in c f ≡ drop (bytes_start c) f
  bytes_rest = ap (λ n. take (n - bytes_start c) (drop (bytes_start c) f)) (sym e) ∙ take_rest f (bytes_start c)

  pub bytes_count : length (bytes_in c f) ≡ c.bytes
  bytes_count = rw bytes_rest (rw (length-drop (bytes_start c) f) (omega arith))

module _ (c : TreeCounts) (f : List ℕ) where
  -- the node of a row, whose tokens start at token `t`
  abbrev pub nodeFrom : ℕ → ℕ → Node
  nodeFrom i t = record { parent = parent_by (parent_at f i); tokens = list_from (token_at c f) t (token_count_at f i) }

  nodes_at : (i t n k : ℕ) (z : Node) → k < n → get_or (nodes_from c f i t n) k z ≡ nodeFrom (i + k) (t + sum_from (token_count_at f) i k)
  unfolding nodes_from sum_from
  nodes_at i t zero k z h = absurd (not-suc-le-zero h)
  nodes_at i t (suc n) zero z h = let a : i + 0 ≡ i = omega arith in let b : t + 0 ≡ t = omega arith in rw (a, b)
  nodes_at i t (suc n) (suc k) z h =
      let a : i + suc k ≡ suc i + k = omega arith in
      let b : t + (token_count_at f i + sum_from (token_count_at f) (suc i) k) ≡ t + token_count_at f i + sum_from (token_count_at f) (suc i) k =
      omega arith in
      rw (a, b) (nodes_at (suc i) (t + token_count_at f i) n k z (omega arith))

  -- a node's tokens come after those of all nodes before it
  pub node_at : (i : ℕ) (z : Node) → i < c.nodes → get_or (tree_by c f).nodes i z ≡ nodeFrom i (sum_from (token_count_at f) 0 i)
  node_at i z h =
      let a : 0 + i ≡ i = omega arith in
      let b : 0 + sum_from (token_count_at f) 0 i ≡ sum_from (token_count_at f) 0 i = omega arith in
      nodes_at 0 0 c.nodes i z h ∙ rw (a, b)

  pub name_at_lem : (n : ℕ) → n < c.names → name_in (tree_by c f) n ≡ text_at c f n
  name_at_lem n h = let a : 0 + n ≡ n = omega arith in
      ap (text_in (bytes_in c f)) (list_at (name_at c f) 0 c.names n (text 0 0) h ∙ ap (name_at c f) a)

  module _ (k : FormedBy c f) where
    -- they are tokens of the file
    pub node_tokens : (i : ℕ) → i < c.nodes → sum_from (token_count_at f) 0 i + token_count_at f i ≤ c.tokens
    unfolding sum_from
    node_tokens i h =
        let more : sum_from (token_count_at f) 0 (i + 1) ≡ sum_from (token_count_at f) 0 i + (token_count_at f (0 + i) + 0) =
        sum_append (token_count_at f) 0 i 1 in
        let a : 0 + i ≡ i = omega arith in
        let less : sum_from (token_count_at f) 0 (i + 1) ≤ sum_from (token_count_at f) 0 c.nodes =
        sum_less (token_count_at f) 0 (i + 1) c.nodes (omega arith) in
        let same : token_count_at f (0 + i) ≡ token_count_at f i = ap (token_count_at f) a in
        omega (arith, k.sums)

    -- the text of a token's raw name is that of the tree
    pub raw_text : (i : ℕ) {raw display : ℕ} → i < c.tokens → token_at c f i ≡ Descriptor raw display →
        name_in (tree_by c f) raw ≡ text_at c f raw
    raw_text i {raw} {display} h e =
        let below : NamesBelow c.names (Descriptor raw display) = rw e at (k.tokens i h) in
        name_at_lem raw below.0
