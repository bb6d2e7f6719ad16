-- Tokens with their changes: how many they are, and how numbers go on from one stretch of them to the next. Assumes nothing.
use mathlib.Core.Path.{◌≡◌, refl, sym, ◌∙◌, ap}
use mathlib.Core.List.{List, [], ◌∷◌, ◌++◌, map, append_assoc}
use Prim.Native.Nat.{ℕ, suc, ◌+◌}
use native.Mathlib.Omega.{arith}
use lib.ListN.{length, length-append}
use Rattle.tree_rule.specs.declared.Token.{Token}
use Rattle.tree_rule.specs.Trees.{Node}
use Rattle.tree_rule.specs.Files.{all_tokens, node_row_bytes}
use Rattle.name_rule.specs.Mappings.{Mapping}
use Rattle.apply_rule.specs.Changes.{
  Change,
  Context,
  context_of,
  signed_of,
  change_of,
  Changed,
  ChangedNode,
  changed_from,
  changed_nodes,
}
use Rattle.apply_rule.specs.Applying.{name_of, new_names, numbered, numbered_nodes, all_changed, name_rows}

-- Names and numbers of one stretch and the next.
pub new_append : (ds bs : List Changed) → new_names (ds ++ bs) ≡ new_names ds ++ new_names bs
unfolding new_names
new_append [] bs = refl
new_append (d ∷ ds) bs =
    ap (λ l. name_of d.change ++ l) (new_append ds bs) ∙ sym (append_assoc (name_of d.change) (new_names ds) (new_names bs))

pub numbered_append : (next : ℕ) (ds bs : List Changed) →
    numbered next (ds ++ bs) ≡ numbered next ds ++ numbered (next + length (new_names ds)) bs
unfolding numbered new_names
numbered_append next [] bs = let z : next + 0 ≡ next = omega arith in rw z
numbered_append next (d ∷ ds) bs =
    let first : List (List ℕ) = name_of d.change in
    let z : next + length first + length (new_names ds) ≡ next + length (first ++ new_names ds) =
    omega (arith, length-append first (new_names ds)) in
    rw (numbered_append (next + length first) ds bs, z)

pub numbered_length : (next : ℕ) (cs : List Changed) → length (numbered next cs) ≡ length cs
unfolding numbered
numbered_length next [] = refl
numbered_length next (c ∷ cs) = ap suc (numbered_length (next + length (name_of c.change)) cs)

-- nodes are numbered as all their tokens are, one after the other
pub tokens_numbered : (next : ℕ) (ns : List ChangedNode) → all_tokens (numbered_nodes next ns) ≡ numbered next (all_changed ns)
unfolding all_tokens numbered_nodes all_changed numbered
tokens_numbered next [] = refl
tokens_numbered next (n ∷ ns) =
    ap (λ l. numbered next n.tokens ++ l) (tokens_numbered (next + length (new_names n.tokens)) ns)
    ∙ sym (numbered_append next n.tokens (all_changed ns))

pub name_rows_length : (at : ℕ) (ss : List (List ℕ)) → length (name_rows at ss) ≡ length ss
unfolding name_rows
name_rows_length at [] = refl
name_rows_length at (s ∷ ss) = ap suc (name_rows_length (at + length s) ss)

-- The tokens of one node.
module _ (change : ℕ → Token → Change) where
  pub changed_length : (start : ℕ) (ts : List Token) → length (changed_from change start ts) ≡ length ts
  unfolding changed_from
  changed_length start [] = refl
  changed_length start (t ∷ ts) = ap suc (changed_length (suc start) ts)

-- All nodes.
module _ (m : Mapping) (class : List ℕ) (name : ℕ → List ℕ) where
  pub changed_nodes_length : (done : List Context) (ns : List Node) → length (changed_nodes m class name done ns) ≡ length ns
  unfolding changed_nodes
  changed_nodes_length done [] = refl
  changed_nodes_length done (n ∷ ns) = ap suc (changed_nodes_length (done ++ (context_of class name done n ∷ [])) ns)

  -- as many tokens as there were
  pub all_changed_length : (done : List Context) (ns : List Node) →
      length (all_changed (changed_nodes m class name done ns)) ≡ length (all_tokens ns)
  unfolding changed_nodes all_changed all_tokens
  all_changed_length done [] = refl
  all_changed_length done (n ∷ ns) =
      let context : Context = context_of class name done n in
      let tokens : List Changed = changed_from (change_of m class name (signed_of class name n.tokens) context) 0 n.tokens in
      let rest : List ChangedNode = changed_nodes m class name (done ++ (context ∷ [])) ns in
      length-append tokens (all_changed rest)
      ∙ rw (
        changed_length (change_of m class name (signed_of class name n.tokens) context) 0 n.tokens,
        all_changed_length (done ++ (context ∷ [])) ns,
      ) (sym (length-append n.tokens (all_tokens ns)))

  -- "same rows": parents and numbers of tokens are as they were
  pub node_rows_same : (next : ℕ) (done : List Context) (ns : List Node) →
      map node_row_bytes (numbered_nodes next (changed_nodes m class name done ns)) ≡ map node_row_bytes ns
  unfolding numbered_nodes changed_nodes
  node_rows_same next done [] = refl
  node_rows_same next done (n ∷ ns) =
      let context : Context = context_of class name done n in
      let tokens : List Changed = changed_from (change_of m class name (signed_of class name n.tokens) context) 0 n.tokens in
      rw (
        numbered_length next tokens,
        changed_length (change_of m class name (signed_of class name n.tokens) context) 0 n.tokens,
        node_rows_same (next + length (new_names tokens)) (done ++ (context ∷ [])) ns,
      )

pub numbered_nodes_length : (next : ℕ) (ns : List ChangedNode) → length (numbered_nodes next ns) ≡ length ns
unfolding numbered_nodes
numbered_nodes_length next [] = refl
numbered_nodes_length next (n ∷ ns) = ap suc (numbered_nodes_length (next + length (new_names n.tokens)) ns)
