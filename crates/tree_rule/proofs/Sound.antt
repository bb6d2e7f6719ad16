-- The tree of a file that passes the checks is sound, and the file of a sound tree passes them. Assumes nothing.
use mathlib.Core.Path.{◌≡◌, refl, sym, ◌∙◌, ap, subst}
use mathlib.Core.Bool.{Bool, true, false}
use mathlib.Core.List.{List, [], ◌∷◌, ◌++◌, map}
use Prim.Native.Nat.{ℕ, zero, suc, ◌+◌, ◌*◌, ◌≤◌, ◌<◌}
use native.Mathlib.Nat.{not-suc-le-zero}
use native.Mathlib.Omega.{arith}
use lib.Dec.{eqb}
use lib.ListN.{length, get_or, drop, length-append}
use borrow.Author.Tests.{eqb-true, ne_eqb}
use Rattle.ground.specs.Join.{join}
use Rattle.table_rows.specs.Rows.{text}
use Rattle.tables.specs.Back.{text_in}
use Rattle.text_utf8.specs.Utf8.{is_utf8}
use Rattle.tree_rule.specs.declared.TreeCounts.{TreeCounts}
use Rattle.tree_rule.specs.declared.Token.{Token}
use Rattle.tree_rule.specs.declared.Token.TheVariants.{Other, MemberName, Descriptor, SourceLine}
use Rattle.tree_rule.specs.Words.{word_at, list_from, sum_from}
use Rattle.tree_rule.specs.Trees.{Tree}
use Rattle.tree_rule.specs.Files.{
  counts_in,
  tokens_start,
  file_length,
  parent_at,
  token_count_at,
  token_at,
  name_at,
  bytes_in,
  parent_by,
  nodes_from,
  tree_by,
  read_tree,
  all_tokens,
  node_row_bytes,
  token_row_bytes,
  name_row_bytes,
  counts_of,
  written_tree,
}
use Rattle.tree_rule.specs.Checks.{well_formed_file}
use Rattle.tree_rule.specs.Theorems.{FormedBy, FormedTree, NamesBelow, Word, TokenFits, Writable, ParentSound, no_node, SoundTree}
use Rattle.tree_rule.proofs.WordLaws.{bytes_length, word_small}
use Rattle.tree_rule.proofs.RowLaws.{list_length, list_at, every_at, every_row}
use Rattle.tree_rule.proofs.Formed.{formed_file}
use Rattle.tree_rule.proofs.Reading.{bytes_count, node_at}
use Rattle.tree_rule.proofs.ReadWritten.{
  three_read,
  token_read,
  token_length,
  node_length,
  name_length,
  rows_next,
  at_tokens,
  counts_again,
  tree_again,
}
use Rattle.tree_rule.proofs.WrittenRead.{nodes_length, nodes_tokens}
use Rattle.ground.proofs.Joins.{joined_length}

-- From a file to its tree.
module _ (f : List ℕ) (small : (i : ℕ) → get_or f i 0 < 256) where
  abbrev c : TreeCounts
  c = counts_in f

  parent_sound : FormedTree f → (i : ℕ) → i < c.nodes → ParentSound i (parent_by (parent_at f i))
  parent_sound k zero h = rw k.root (omega arith)
  parent_sound k (suc i) h =
      let low = k.lower (suc i) (omega arith) h in
      let fits : Word c.nodes = word_small f small 0 in
      rw (ne_eqb (parent_at f (suc i)) 4294967295 (λ e. let z : parent_at f (suc i) ≡ 4294967295 = e in omega arith)) low

  pub read_sound : FormedTree f → SoundTree (read_tree f)
  read_sound k =
      let nodes = nodes_length c f 0 0 c.nodes in
      let names = list_length (name_at c f) 0 c.names in
      let tokens : all_tokens (nodes_from c f 0 0 c.nodes) ≡ list_from (token_at c f) 0 c.tokens =
      nodes_tokens c f 0 0 c.nodes ∙ ap (list_from (token_at c f) 0) k.sums in
      record {
        some = rw nodes k.some;
        parents = λ i h. rw (node_at c f i no_node (rw nodes at h)) (parent_sound k i (rw nodes at h));
        tokens = rw (names, tokens) (every_row (NamesBelow c.names) (token_at c f) 0 c.tokens
            (λ i l h. k.tokens i (omega arith)));
        inside = every_row (λ n. n.place + n.length ≤ length (bytes_in c f)) (name_at c f) 0 c.names
            (λ i l h. rw (bytes_count c f k.size) (k.inside i (omega arith)));
        utf8 = every_row (λ n. is_utf8 (text_in (bytes_in c f) n) ≡ true) (name_at c f) 0 c.names (λ i l h. k.utf8 i (omega arith));
      }

-- From a tree to its file.
-- a row by its number, and what stands behind it
rows_at : {A : Type 0} (enc : A → List ℕ) (w base : ℕ) (f : List ℕ) → ((x : A) → length (enc x) ≡ w) →
    (z : A) (l : List A) (i k : ℕ)
    (r : List ℕ) → drop (base + w * i) f ≡ join (map enc l) ++ r → k < length l →
    (q : List ℕ) × (drop (base + w * (i + k)) f ≡ enc (get_or l k z) ++ q)
rows_at enc w base f size z [] i k r e h = absurd (not-suc-le-zero h)
rows_at enc w base f size z (x ∷ l) i zero r e h =
    let y : i + 0 ≡ i = omega arith in
    (join (map enc l) ++ r, rw y (rows_next enc w base f size i x l r e).0)
rows_at enc w base f size z (x ∷ l) i (suc k) r e h =
    let y : i + suc k ≡ suc i + k = omega arith in
    rw y (rows_at enc w base f size z l (suc i) k r (rows_next enc w base f size i x l r e).1 (omega arith))

parent_none : (w : ℕ) → ParentSound 0 (parent_by w) → w ≡ 4294967295
parent_none w s = go (eqb w 4294967295) refl
  where
    go : (b : Bool) → eqb w 4294967295 ≡ b → w ≡ 4294967295
    go true e = eqb-true w 4294967295 e
    go false e = absurd (rw e at s)

parent_low : (i w : ℕ) → ParentSound (suc i) (parent_by w) → w < suc i
parent_low i w s = go (eqb w 4294967295) refl
  where
    go : (b : Bool) → eqb w 4294967295 ≡ b → w < suc i
    go true e = absurd (rw e at s)
    go false e = rw e at s

-- the kind of a token that was written
kind_written : (f : List ℕ) (at : ℕ) (t : Token) (r : List ℕ) → TokenFits t → drop at f ≡ token_row_bytes t ++ r →
    word_at f at ≤ 3
kind_written f at (Other a b) r p e = rw (three_read f at 0 a b r (omega arith) p.0 p.1 e).0 (omega arith)
kind_written f at (MemberName a b) r p e = rw (three_read f at 1 a b r (omega arith) p.0 p.1 e).0 (omega arith)
kind_written f at (Descriptor a b) r p e = rw (three_read f at 2 a b r (omega arith) p.0 p.1 e).0 (omega arith)
kind_written f at (SourceLine a b) r p e = rw (three_read f at 3 a b r (omega arith) p.0 p.1 e).0 (omega arith)

module _ (t : Tree) (w : Writable t) (s : SoundTree t) where
  abbrev g : List ℕ
  g = written_tree t

  abbrev d : TreeCounts
  d = counts_of t

  whole_length : length g ≡ file_length d
  whole_length =
      let a = joined_length node_row_bytes 8 node_length t.nodes in
      let b = joined_length token_row_bytes 12 token_length (all_tokens t.nodes) in
      let e = joined_length name_row_bytes 8 name_length t.names in
      simp (length-append, bytes_length) (omega arith)

  again : tree_by d g ≡ t
  again = tree_again t w

  parent_again : (i : ℕ) → i < length t.nodes → ParentSound i (parent_by (parent_at g i))
  parent_again i h =
      let e : (get_or t.nodes i no_node).parent ≡ parent_by (parent_at g i) =
      ap (λ x. (get_or x.nodes i no_node).parent) (sym again) ∙ ap (λ x. x.parent) (node_at d g i no_node h) in
      rw e at (s.parents i h)

  name_again : (i : ℕ) → i < length t.names → name_at d g i ≡ get_or t.names i (text 0 0)
  name_again i h =
      let z : 0 + i ≡ i = omega arith in
      ap (name_at d g) (sym z) ∙ sym (list_at (name_at d g) 0 (length t.names) i (text 0 0) h)
      ∙ ap (λ x. get_or x.names i (text 0 0)) again

  -- the row of a token
  module _ (i : ℕ) (h : i < length (all_tokens t.nodes)) where
    abbrev token : Token
    token = get_or (all_tokens t.nodes) i (Other 0 0)

    token_row_lem : (q : List ℕ) × (drop (tokens_start d + 12 * i) g ≡ token_row_bytes token ++ q)
    token_row_lem =
        let z : 0 + i ≡ i = omega arith in
        rw z at (rows_at token_row_bytes 12 (tokens_start d) g token_length (Other 0 0) (all_tokens t.nodes) 0 i
        (join (map name_row_bytes t.names) ++ t.bytes) (at_tokens t) h)

    fits : TokenFits token
    fits = every_at (Other 0 0) (all_tokens t.nodes) w.tokens i h

    kind_again : word_at g (tokens_start d + 12 * i) ≤ 3
    kind_again = kind_written g (tokens_start d + 12 * i) token token_row_lem.0 fits token_row_lem.1

    token_again : NamesBelow (length t.names) (token_at d g i)
    token_again =
        subst (NamesBelow (length t.names)) (sym (token_read g (tokens_start d + 12 * i) token token_row_lem.0 fits token_row_lem.1))
        (every_at (Other 0 0) (all_tokens t.nodes) s.tokens i h)

  formed_again : FormedBy d g
  formed_again =
      record {
        size = whole_length;
        some = s.some;
        root = parent_none (parent_at g 0) (parent_again 0 s.some);
        lower = λ i l h. low i l h;
        sums = sym (list_length (token_at d g) 0 (sum_from (token_count_at g) 0 d.nodes))
            ∙ ap length (sym (nodes_tokens d g 0 0 d.nodes))
            ∙ ap (λ x. length (all_tokens x.nodes)) again;
        kinds = kind_again;
        tokens = token_again;
        inside = λ i h. subst (λ n. n.place + n.length ≤ length t.bytes) (sym (name_again i h))
            (every_at (text 0 0) t.names s.inside i h);
        utf8 = λ i h. ap (λ x. is_utf8 (text_in (bytes_in d g) x)) (name_again i h)
            ∙ ap (λ x. is_utf8 (text_in x.bytes (get_or t.names i (text 0 0)))) again
            ∙ every_at (text 0 0) t.names s.utf8 i h;
      }
    where
      low : (i : ℕ) → 1 ≤ i → i < d.nodes → parent_at g i < i
      low zero l h = absurd (omega arith)
      low (suc i) l h = parent_low i (parent_at g (suc i)) (parent_again (suc i) h)

  pub written_formed : well_formed_file (written_tree t) ≡ true
  written_formed = formed_file g (subst (λ x. FormedBy x g) (sym (counts_again t w)) formed_again)
