-- A file laid out with its changes, stretch by stretch, is the tree with these changes, written. Assumes nothing.
use mathlib.Core.Path.{◌≡◌, sym, ◌∙◌, ap}
use mathlib.Core.List.{List, [], ◌++◌, map, append_assoc}
use Prim.Native.Nat.{ℕ, ◌+◌, ◌*◌, ◌-◌, ◌<◌}
use native.Mathlib.Omega.{arith}
use lib.ListN.{length, get_or, drop, length-append}
use lib.Seq.{take_at, drop_at, drop-drop}
use Rattle.ground.specs.Join.{join}
use Rattle.ground.specs.Put.{between}
use Rattle.ground.proofs.Joins.{join_append}
use Rattle.name_rule.specs.Mappings.{Mapping}
use Rattle.tree_rule.specs.declared.TreeCounts.{TreeCounts}
use Rattle.tree_rule.specs.Words.{list_from}
use Rattle.tree_rule.specs.Trees.{Tree, name_in}
use Rattle.tree_rule.specs.Files.{
  counts_in,
  nodes_start,
  tokens_start,
  names_start,
  bytes_start,
  token_at,
  name_at,
  bytes_in,
  tree_by,
  all_tokens,
  node_row_bytes,
  token_row_bytes,
  name_row_bytes,
  count_bytes,
  counts_of,
  written_tree,
}
use Rattle.tree_rule.specs.Theorems.{FormedBy}
use Rattle.tree_rule.proofs.RowLaws.{list_length}
use Rattle.tree_rule.proofs.Reading.{bytes_count}
use Rattle.tree_rule.proofs.ReadWritten.{node_length, token_length, name_length}
use Rattle.tree_rule.proofs.WrittenRead.{nodes_length, nodes_tokens, body_kept}
use Rattle.apply_rule.specs.Changes.{Changed, ChangedNode}
use Rattle.apply_rule.specs.Applying.{
  new_names,
  numbered,
  numbered_nodes,
  name_rows,
  all_changed,
  changed_in,
  tree_with,
  applied_tree,
  applied_file,
}
use Rattle.apply_rule.specs.Inner.Plans.{laid_counts, laid_out}
use Rattle.apply_rule.proofs.Numbering.{
  tokens_numbered,
  numbered_length,
  numbered_nodes_length,
  changed_nodes_length,
  all_changed_length,
  node_rows_same,
  name_rows_length,
}
use Rattle.ground.proofs.Joins.{joined_length}

module _ (c : TreeCounts) (f : List ℕ) (k : FormedBy c f) where
  abbrev t : Tree
  t = tree_by c f

  pub all_tokens_lem : all_tokens (tree_by c f).nodes ≡ list_from (token_at c f) 0 c.tokens
  all_tokens_lem = nodes_tokens c f 0 0 c.nodes ∙ ap (list_from (token_at c f) 0) k.sums

  pub all_tokens_length : length (all_tokens (tree_by c f).nodes) ≡ c.tokens
  all_tokens_length = ap length all_tokens_lem ∙ list_length (token_at c f) 0 c.tokens

  pub names_length : length (tree_by c f).names ≡ c.names
  names_length = list_length (name_at c f) 0 c.names

  -- The stretches of the file that stay as they are.
  module _ (small : (i : ℕ) → get_or f i 0 < 256) where
    abbrev nodePart : List ℕ
    nodePart = join (map node_row_bytes t.nodes)

    abbrev tokenPart : List ℕ
    tokenPart = join (map token_row_bytes (all_tokens t.nodes))

    abbrev namePart : List ℕ
    namePart = join (map name_row_bytes t.names)

    body : drop nodes_start f ≡ nodePart ++ (tokenPart ++ (namePart ++ bytes_in c f))
    body = body_kept c f small k

    node_part_length : length nodePart ≡ 8 * c.nodes
    node_part_length = joined_length node_row_bytes 8 node_length t.nodes ∙ ap (λ n. 8 * n) (nodes_length c f 0 0 c.nodes)

    token_part_length : length tokenPart ≡ 12 * c.tokens
    token_part_length = joined_length token_row_bytes 12 token_length (all_tokens t.nodes) ∙ ap (λ n. 12 * n) all_tokens_length

    name_part_length : length namePart ≡ 8 * c.names
    name_part_length = joined_length name_row_bytes 8 name_length t.names ∙ ap (λ n. 8 * n) names_length

    pub node_stretch : between f nodes_start (tokens_start c) ≡ join (map node_row_bytes (tree_by c f).nodes)
    node_stretch =
        let z : tokens_start c - nodes_start ≡ 8 * c.nodes = omega arith in
        rw (z, body) (take_at nodePart (tokenPart ++ (namePart ++ bytes_in c f)) (8 * c.nodes) node_part_length)

    behind_tokens : drop (names_start c) f ≡ namePart ++ bytes_in c f
    behind_tokens =
        let z : names_start c ≡ nodes_start + 8 * c.nodes + 12 * c.tokens = omega arith in
        ap (λ n. drop n f) z ∙ sym (drop-drop (12 * c.tokens) (nodes_start + 8 * c.nodes) f)
        ∙ ap (drop (12 * c.tokens)) (sym (drop-drop (8 * c.nodes) nodes_start f) ∙ ap (drop (8 * c.nodes)) body
        ∙ drop_at nodePart (tokenPart ++ (namePart ++ bytes_in c f)) (8 * c.nodes) node_part_length)
        ∙ drop_at tokenPart (namePart ++ bytes_in c f) (12 * c.tokens) token_part_length

    pub name_stretch : between f (names_start c) (bytes_start c) ≡ join (map name_row_bytes (tree_by c f).names)
    name_stretch =
        let z : bytes_start c - names_start c ≡ 8 * c.names = omega arith in
        rw (z, behind_tokens) (take_at namePart (bytes_in c f) (8 * c.names) name_part_length)

    -- The whole.
    module _ (m : Mapping) (class : List ℕ) where
      abbrev nodes : List ChangedNode
      nodes = changed_in m class t

      abbrev changes : List Changed
      changes = all_changed nodes

      pub laid_counts_lem :
          counts_of (tree_with (tree_by c f) (changed_in m class (tree_by c f))) ≡
          laid_counts c (new_names (all_changed (changed_in m class (tree_by c f))))
      laid_counts_lem =
          let new : List (List ℕ) = new_names changes in
          rw (
            numbered_nodes_length (length t.names) nodes,
            changed_nodes_length m class (name_in t) [] t.nodes,
            nodes_length c f 0 0 c.nodes,
            tokens_numbered (length t.names) nodes,
            numbered_length (length t.names) changes,
            all_changed_length m class (name_in t) [] t.nodes,
            all_tokens_length,
            length-append t.names (name_rows (length t.bytes) new),
            name_rows_length (length t.bytes) new,
            names_length,
            length-append t.bytes (join new),
            bytes_count c f k.size,
          )

      pub laid_written :
          laid_out c f (all_changed (changed_in m class (tree_by c f))) ≡
          written_tree (tree_with (tree_by c f) (changed_in m class (tree_by c f)))
      laid_written =
          let new : List (List ℕ) = new_names changes in
          let rows : List ℕ = join (map name_row_bytes (name_rows (length t.bytes) new)) in
          let body : List ℕ =
          join (map node_row_bytes (numbered_nodes (length t.names) nodes)) ++
          (join (map token_row_bytes (all_tokens (numbered_nodes (length t.names) nodes))) ++
          (join (map name_row_bytes (t.names ++ name_rows (length t.bytes) new)) ++ (t.bytes ++ join new))) in
          let same : between f nodes_start (tokens_start c) ++
          (join (map token_row_bytes (numbered c.names changes)) ++
          (between f (names_start c) (bytes_start c) ++
          (join (map name_row_bytes (name_rows c.bytes new)) ++ (bytes_in c f ++ join new)))) ≡ body =
          rw (
            node_rows_same m class (name_in t) (length t.names) [] t.nodes,
            tokens_numbered (length t.names) nodes,
            join_append name_row_bytes t.names (name_rows (length t.bytes) new),
            append_assoc namePart rows (t.bytes ++ join new),
            names_length,
            bytes_count c f k.size,
            node_stretch,
            name_stretch,
          ) in
          ap (λ l. count_bytes (laid_counts c new) ++ l) same ∙ ap (λ n. count_bytes n ++ body) (sym laid_counts_lem)

      -- by the counts at its head, it is the file that applying writes
      pub laid_applied : c ≡ counts_in f → laid_out c f (all_changed (changed_in m class (tree_by c f))) ≡ applied_file m class f
      laid_applied e = laid_written ∙ ap (λ x. written_tree (applied_tree m class (tree_by x f))) e
