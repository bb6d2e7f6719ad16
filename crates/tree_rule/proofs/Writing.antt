-- Every tree that is read from a well-formed file can be written. Assumes nothing.
use mathlib.Core.Path.{◌≡◌, refl, ◌∙◌, ap}
use mathlib.Core.Bool.{Bool, true, false}
use mathlib.Core.List.{List}
use Prim.Native.Nat.{ℕ, zero, suc, ◌+◌, ◌*◌, ◌<◌}
use native.Mathlib.Omega.{arith}
use lib.Dec.{eqb}
use lib.ListN.{get_or}
use borrow.Author.Tests.{eqb-false}
use Rattle.tree_rule.specs.declared.TreeCounts.{TreeCounts}
use Rattle.tree_rule.specs.Words.{word_at, list_from}
use Rattle.tree_rule.specs.Files.{
  counts_in,
  tokens_start,
  parent_at,
  token_count_at,
  token_by,
  token_at,
  name_at,
  parent_by,
  nodes_from,
  all_tokens,
  read_tree,
}
use Rattle.tree_rule.specs.Theorems.{
  FormedTree,
  Word,
  ParentFits,
  TokenFits,
  NameFits,
  Every,
  every_none,
  every_one,
  Writable,
}
use Rattle.tree_rule.proofs.WordLaws.{word_small}
use Rattle.tree_rule.proofs.RowLaws.{list_length, every_row}
use Rattle.tree_rule.proofs.Reading.{bytes_count}
use Rattle.tree_rule.proofs.WrittenRead.{nodes_length, nodes_tokens}

parent_fits : (w : ℕ) → Word w → ParentFits (parent_by w)
parent_fits w h = go (eqb w 4294967295) refl
  where
    go : (b : Bool) → eqb w 4294967295 ≡ b → ParentFits (parent_by w)
    go true e = rw e (omega arith)
    go false e = rw e (let n = eqb-false w 4294967295 e in omega arith)

token_fits : (kind a b : ℕ) → Word a → Word b → TokenFits (token_by kind a b)
token_fits kind a b p q = go (eqb kind 1) refl (eqb kind 2) refl (eqb kind 3) refl
  where
    go : (x : Bool) → eqb kind 1 ≡ x → (y : Bool) → eqb kind 2 ≡ y → (z : Bool) → eqb kind 3 ≡ z →
        TokenFits (token_by kind a b)
    go true e y f z g = rw e (p, q)
    go false e true f z g = rw (e, f) (p, q)
    go false e false f true g = rw (e, f, g) (p, q)
    go false e false f false g = rw (e, f, g) (p, q)

module _ (f : List ℕ) (small : (i : ℕ) → get_or f i 0 < 256) where
  word : (at : ℕ) → Word (word_at f at)
  word at = word_small f small at

  nodes_fit : (c : TreeCounts) (i t n : ℕ) → Every (λ m. ParentFits m.parent) (nodes_from c f i t n)
  unfolding nodes_from
  nodes_fit c i t zero = every_none
  nodes_fit c i t (suc n) = every_one (parent_fits (parent_at f i) (word (16 + 8 * i))) (nodes_fit c (suc i) (t + token_count_at f i) n)

  token_at_fits : (c : TreeCounts) (i : ℕ) → TokenFits (token_at c f i)
  token_at_fits c i =
      let at : ℕ = tokens_start c + 12 * i in
      token_fits (word_at f at) (word_at f (at + 4)) (word_at f (at + 8)) (word (at + 4)) (word (at + 8))

  pub read_writable : FormedTree f → Writable (read_tree f)
  read_writable k =
      let c : TreeCounts = counts_in f in
      let tokens : all_tokens (nodes_from c f 0 0 c.nodes) ≡ list_from (token_at c f) 0 c.tokens =
      nodes_tokens c f 0 0 c.nodes ∙ ap (list_from (token_at c f) 0) k.sums in
      record {
        node_count = rw (nodes_length c f 0 0 c.nodes) (word 0);
        token_count = rw (tokens, list_length (token_at c f) 0 c.tokens) (word 4);
        name_count = rw (list_length (name_at c f) 0 c.names) (word 8);
        byte_count = rw (bytes_count c f k.size) (word 12);
        parents = nodes_fit c 0 0 c.nodes;
        tokens = rw tokens (every_row TokenFits (token_at c f) 0 c.tokens (λ i l h. token_at_fits c i));
        names = every_row NameFits (name_at c f) 0 c.names (λ i l h. (word _, word _));
      }
