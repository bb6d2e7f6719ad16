-- A mapping of tables of which all rows are used, and a file with its changes, stretch by stretch.
use Rattle.std.specs.Prelude.{List, ◌++◌, map, ℕ, ◌+◌, length}
use Rattle.ground.specs.Join.{join}
use Rattle.ground.specs.Put.{between}
use Rattle.tables.specs.Back.{read_back}
use Rattle.name_rule.specs.Mappings.{Mapping, mapping, entries_back}
use Rattle.tree_rule.specs.declared.TreeCounts.{TreeCounts}
use Rattle.tree_rule.specs.Files.{
  tree_counts,
  nodes_start,
  tokens_start,
  names_start,
  bytes_start,
  token_at,
  bytes_in,
  tree_by,
  token_row_bytes,
  name_row_bytes,
  count_bytes,
}
use Rattle.apply_rule.specs.Changes.{Changed}
use Rattle.apply_rule.specs.Applying.{new_names, numbered, name_rows, all_changed, changed_in}

-- the mapping of tables of which all rows are used
abbrev pub mapping_in : List (List ℕ) → List (List ℕ) → List ℕ → Mapping
mapping_in classes rows pool = mapping (read_back classes pool) (entries_back rows pool)

-- what becomes of all tokens of a file, one after the other
abbrev pub changes_in : List (List ℕ) → List (List ℕ) → List ℕ → List ℕ → TreeCounts → List ℕ → List Changed
changes_in classes rows pool class c f = all_changed (changed_in (mapping_in classes rows pool) class (tree_by c f))

-- A file with changes, stretch by stretch: counts, node rows as they are, token rows, name rows as they are and new ones, bytes as they are
-- and new ones.
abbrev pub laid_counts : TreeCounts → List (List ℕ) → TreeCounts
laid_counts c new = tree_counts c.nodes c.tokens (c.names + length new) (c.bytes + length (join new))

-- by the bytes of all token rows, and the new names
abbrev pub laid_from : TreeCounts → List ℕ → List ℕ → List (List ℕ) → List ℕ
laid_from c f tokens new =
    count_bytes (laid_counts c new) ++
    (between f nodes_start (tokens_start c) ++
    (tokens ++
    (between f (names_start c) (bytes_start c) ++
    (join (map name_row_bytes (name_rows c.bytes new)) ++ (bytes_in c f ++ join new)))))

abbrev pub laid_out : TreeCounts → List ℕ → List Changed → List ℕ
laid_out c f cs = laid_from c f (join (map token_row_bytes (numbered c.names cs))) (new_names cs)
