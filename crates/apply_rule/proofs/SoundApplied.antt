-- The tree that comes out is sound and can be written: its file is well formed, and reads back to it. Assumes nothing.
use mathlib.Core.Path.{◌≡◌, refl, sym, ◌∙◌, ap, subst}
use mathlib.Core.Bool.{true}
use mathlib.Core.List.{List, [], ◌∷◌}
use mathlib.Core.Logic.{◌⊎◌, inl, inr}
use Prim.Native.Nat.{ℕ, suc, ◌+◌, ◌≤◌, ◌<◌}
use native.Mathlib.Omega.{arith}
use lib.ListN.{length, get_or, length-append, get_or-eq_default}
use Rattle.ground.specs.Join.{join}
use Rattle.ground.proofs.Cases.{le_or_lt}
use Rattle.text_utf8.specs.Utf8.{pieces_from, check_from, is_utf8}
use Rattle.table_rows.specs.declared.rows.Text.{Text}
use Rattle.table_rows.specs.Rows.{text}
use Rattle.tables.specs.Back.{text_in}
use Rattle.name_rule.specs.Mappings.{Mapping}
use Rattle.tree_rule.specs.Trees.{Tree, name_in}
use Rattle.tree_rule.specs.Files.{
  file_length,
  read_tree,
  all_tokens,
  node_row_bytes,
  token_row_bytes,
  name_row_bytes,
  counts_of,
  written_tree,
}
use Rattle.tree_rule.specs.Checks.{well_formed_file}
use Rattle.tree_rule.specs.Theorems.{
  NamesBelow,
  ParentFits,
  TokenFits,
  Every,
  every_none,
  every_one,
  Writable,
  ParentSound,
  no_node,
  SoundTree,
}
use Rattle.tree_rule.proofs.WordLaws.{bytes_length}
use Rattle.tree_rule.proofs.RowLaws.{every_at}
use Rattle.tree_rule.proofs.Formed.{formed_tree}
use Rattle.tree_rule.proofs.ReadWritten.{node_length, token_length, name_length, read_written}
use Rattle.tree_rule.proofs.Sound.{read_sound, written_formed}
use Rattle.tree_rule.proofs.Writing.{read_writable}
use Rattle.apply_rule.specs.Changes.{Changed, ChangedNode}
use Rattle.apply_rule.specs.Applying.{
  new_names,
  numbered,
  name_rows,
  all_changed,
  changed_in,
  applied_tree,
  applied_file,
  most_tree,
}
use Rattle.apply_rule.specs.Theorems.{ShowsWell}
use Rattle.apply_rule.proofs.Numbering.{tokens_numbered, name_rows_length}
use Rattle.ground.proofs.Joins.{joined_length}
use Rattle.apply_rule.proofs.Fitting.{ChangeFits, every_append, changes_fit, new_names_fine}
use Rattle.apply_rule.proofs.Kept.{each_length, each_at, text_kept, kept}
use Rattle.apply_rule.proofs.Appended.{new_text, new_inside}
use Rattle.apply_rule.proofs.Suiting.{changes_suit, numbered_below, numbered_fit}

-- a statement about every element, by places
every_place : {A : Type 0} {P : A → Type 0} (z : A) (l : List A) → ((i : ℕ) → i < length l → P (get_or l i z)) → Every P l
every_place z [] h = every_none
every_place z (x ∷ l) h = every_one (h 0 (omega arith)) (every_place z l (λ i k. h (suc i) (omega arith)))

-- every name of a sound tree is UTF-8, and a number that no name has stands for the empty text
pub names_utf8 : (t : Tree) → SoundTree t → (n : ℕ) → is_utf8 (name_in t n) ≡ true
unfolding check_from pieces_from
names_utf8 t s n = go (le_or_lt (length t.names) n)
  where
    go : (length t.names ≤ n) ⊎ (n < length t.names) → is_utf8 (name_in t n) ≡ true
    go (inl h) = rw (get_or-eq_default t.names (text 0 0) h)
    go (inr h) = every_at (text 0 0) t.names s.utf8 n h

-- how long a written tree is
pub written_length : (t : Tree) → length (written_tree t) ≡ file_length (counts_of t)
written_length t =
    let a = joined_length node_row_bytes 8 node_length t.nodes in
    let b = joined_length token_row_bytes 12 token_length (all_tokens t.nodes) in
    let e = joined_length name_row_bytes 8 name_length t.names in
    simp (length-append, bytes_length) (omega arith)

module _ (m : Mapping) (class : List ℕ) (t : Tree) (s : SoundTree t) (w : ShowsWell m) where
  abbrev nodes : List ChangedNode
  nodes = changed_in m class t

  abbrev changes : List Changed
  changes = all_changed nodes

  abbrev new : List (List ℕ)
  new = new_names changes

  abbrev out : Tree
  out = applied_tree m class t

  abbrev rows : List Text
  rows = name_rows (length t.bytes) new

  fit : Every (λ x. ChangeFits x.change) changes
  fit = changes_fit m w class (name_in t) (names_utf8 t s) [] t.nodes

  out_tokens : all_tokens out.nodes ≡ numbered (length t.names) changes
  out_tokens = tokens_numbered (length t.names) nodes

  out_names : length out.names ≡ length t.names + length new
  out_names = length-append t.names rows ∙ ap (λ n. length t.names + n) (name_rows_length (length t.bytes) new)

  out_bytes : length out.bytes ≡ length t.bytes + length (join new)
  out_bytes = length-append t.bytes (join new)

  out_nodes : length out.nodes ≡ length t.nodes
  out_nodes = each_length (kept m class t)

  out_parent : (i : ℕ) → i < length t.nodes → (get_or out.nodes i no_node).parent ≡ (get_or t.nodes i no_node).parent
  out_parent i h = (each_at no_node no_node (kept m class t) i h).parent

  -- a row that was there, and one that is appended
  row_inside : (i : ℕ) → i < length rows → (get_or rows i (text 0 0)).place + (get_or rows i (text 0 0)).length ≤ length out.bytes
  row_inside i h =
      rw out_bytes (new_inside (length t.bytes) new i (rw (name_rows_length (length t.bytes) new) at h))

  row_utf8 : (i : ℕ) → i < length rows → is_utf8 (text_in out.bytes (get_or rows i (text 0 0))) ≡ true
  row_utf8 i h =
      let k : i < length new = rw (name_rows_length (length t.bytes) new) at h in
      ap is_utf8 (new_text t.bytes (length t.bytes) new refl i k) ∙ every_at [] new (new_names_fine changes fit) i k

  old_inside : (i : ℕ) → i < length t.names →
      (get_or t.names i (text 0 0)).place + (get_or t.names i (text 0 0)).length ≤ length out.bytes
  old_inside i h = let k = every_at (text 0 0) t.names s.inside i h in let b = out_bytes in omega arith

  old_utf8 : (i : ℕ) → i < length t.names → is_utf8 (text_in out.bytes (get_or t.names i (text 0 0))) ≡ true
  old_utf8 i h =
      ap is_utf8 (text_kept t.bytes (join new) (get_or t.names i (text 0 0)) (every_at (text 0 0) t.names s.inside i h))
      ∙ every_at (text 0 0) t.names s.utf8 i h

  pub applied_sound : SoundTree (applied_tree m class t)
  applied_sound =
      record {
        some = rw out_nodes s.some;
        parents = λ i h. let k : i < length t.nodes = rw out_nodes at h in
            subst (ParentSound i) (sym (out_parent i k)) (s.parents i k);
        tokens = rw out_tokens (numbered_below (length t.names) (length out.names) (length t.names)
            (omega (arith, out_names)) changes (omega (arith, out_names))
            (changes_suit m class (name_in t) (NamesBelow (length t.names)) [] t.nodes s.tokens));
        inside = every_append t.names rows (every_place (text 0 0) t.names old_inside) (every_place (text 0 0) rows row_inside);
        utf8 = every_append t.names rows (every_place (text 0 0) t.names old_utf8) (every_place (text 0 0) rows row_utf8);
      }

  pub applied_writable : Writable t → length (written_tree (applied_tree m class t)) ≤ most_tree → Writable (applied_tree m class t)
  applied_writable v small =
      let size = written_length out in
      record {
        node_count = omega arith;
        token_count = omega arith;
        name_count = omega arith;
        byte_count = omega arith;
        parents = every_place no_node out.nodes (λ i h. let k : i < length t.nodes = rw out_nodes at h in
            subst ParentFits (sym (out_parent i k)) (every_at no_node t.nodes v.parents i k));
        tokens = rw out_tokens (numbered_fit (length out.names) (length t.names) (omega arith) changes (omega (arith, out_names))
            (changes_suit m class (name_in t) TokenFits [] t.nodes v.tokens) fit);
        names = every_append t.names rows v.names (every_place (text 0 0) rows (λ i h. let k = row_inside i h in
            (omega arith, omega arith)));
      }

-- A mapping applied to a well-formed file, of bytes: the file that comes out is well formed, and is read to the tree that comes out.
module _
    (m : Mapping)
    (class f : List ℕ)
    (formed : well_formed_file f ≡ true)
    (small : (i : ℕ) → get_or f i 0 < 256)
    (w : ShowsWell m)
    (room : length (applied_file m class f) ≤ most_tree) where
  sound : SoundTree (applied_tree m class (read_tree f))
  sound = applied_sound m class (read_tree f) (read_sound f small (formed_tree f formed)) w

  writable : Writable (applied_tree m class (read_tree f))
  writable =
      applied_writable m class (read_tree f) (read_sound f small (formed_tree f formed)) w
      (read_writable f small (formed_tree f formed)) room

  pub applied_formed : well_formed_file (applied_file m class f) ≡ true
  applied_formed = written_formed (applied_tree m class (read_tree f)) writable sound

  pub applied_reads_back : read_tree (applied_file m class f) ≡ applied_tree m class (read_tree f)
  applied_reads_back = read_written (applied_tree m class (read_tree f)) writable
