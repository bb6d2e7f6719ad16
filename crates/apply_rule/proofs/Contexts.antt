-- Line contexts: each node's goes by its own signature and the context of its parent, and the changes use exactly these. Assumes nothing.
use mathlib.Core.Path.{◌≡◌, refl, sym, ◌∙◌, ap}
use mathlib.Core.List.{List, [], ◌∷◌, ◌++◌, append_assoc}
use mathlib.Core.Logic.{◌⊎◌, inl, inr}
use Prim.Native.Nat.{ℕ, zero, suc, ◌+◌, ◌≤◌, ◌<◌}
use native.Mathlib.Nat.{not-suc-le-zero}
use native.Mathlib.Omega.{arith}
use lib.ListN.{length, get_or, length-append, get_or-append}
use lib.Seq.{ext_get_or}
use Rattle.ground.proofs.Cases.{le_or_lt}
use Rattle.name_rule.specs.Mappings.{Mapping}
use Rattle.tree_rule.specs.Trees.{Parent, no_parent, parent_row, Node, Tree, name_in}
use Rattle.tree_rule.specs.Theorems.{ParentSound, no_node, SoundTree}
use Rattle.apply_rule.specs.Changes.{
  signed_of,
  Context,
  no_method,
  context_by,
  context_above,
  context_of,
  ChangedNode,
  changed_node,
  changed_nodes,
}
use Rattle.apply_rule.specs.Applying.{changed_in}
use Rattle.apply_rule.specs.Theorems.{contexts_from, contexts_of}

module _ (class : List ℕ) (name : ℕ → List ℕ) where
  contexts_length : (done : List Context) (ns : List Node) → length (contexts_from class name done ns) ≡ length ns
  unfolding contexts_from
  contexts_length done [] = refl
  contexts_length done (n ∷ ns) = ap suc (contexts_length (done ++ (context_of class name done n ∷ [])) ns)

  -- a parent that is one of the first rows has the same context, whatever comes behind
  above_kept : (i : ℕ) (p : Parent) → ParentSound i p → (done more : List Context) → length done ≡ i →
      context_above done p ≡ context_above (done ++ more) p
  above_kept i no_parent h done more e = refl
  above_kept zero (parent_row p) h done more e = absurd h
  above_kept (suc i) (parent_row p) h done more e = sym (get_or-append done more no_method p (omega arith))

  -- the context of row `length done + k`, by those of all rows
  context_from : (done : List Context) (ns : List Node) (k : ℕ) → k < length ns →
      ParentSound (length done + k) (get_or ns k no_node).parent →
      get_or (contexts_from class name done ns) k no_method ≡ context_of class name (done ++ contexts_from class name done ns) (get_or ns k no_node)
  unfolding contexts_from
  context_from done [] k h s = absurd (not-suc-le-zero h)
  context_from done (n ∷ ns) zero h s =
      let here : Context = context_of class name done n in
      let z : length done + 0 ≡ length done = omega arith in
      let t : ParentSound (length done) n.parent = rw z at s in
      ap (context_by class (signed_of class name n.tokens))
      (above_kept (length done) n.parent t done (here ∷ contexts_from class name (done ++ (here ∷ [])) ns) refl)
  context_from done (n ∷ ns) (suc k) h s =
      let here : Context = context_of class name done n in
      let rest : List Context = contexts_from class name (done ++ (here ∷ [])) ns in
      let z : length done + suc k ≡ length (done ++ (here ∷ [])) + k = omega (arith, length-append done (here ∷ [])) in
      context_from (done ++ (here ∷ [])) ns k (omega arith) (rw z at s)
      ∙ ap (λ l. context_of class name l (get_or ns k no_node)) (append_assoc done (here ∷ []) rest)

  -- "becomes the line context of the node itself and all below; otherwise the parent's holds"
  pub context_above_lem : (t : Tree) → SoundTree t → (i : ℕ) → i < length t.nodes →
      get_or (contexts_of class name t.nodes) i no_method ≡
      context_by class (signed_of class name (get_or t.nodes i no_node).tokens)
      (context_above (contexts_of class name t.nodes) (get_or t.nodes i no_node).parent)
  context_above_lem t s i h = let z : 0 + i ≡ i = omega arith in context_from [] t.nodes i h (rw z (s.parents i h))

  -- and no other list of contexts goes by that law
  module _ (t : Tree) (s : SoundTree t) (cs : List Context)
      (law : (i : ℕ) → i < length t.nodes → get_or cs i no_method ≡ context_of class name cs (get_or t.nodes i no_node)) where
    abbrev known : List Context
    known = contexts_of class name t.nodes

    same_above : (i : ℕ) (p : Parent) → ParentSound i p → ((k : ℕ) → k < i → get_or cs k no_method ≡ get_or known k no_method) →
        context_above cs p ≡ context_above known p
    same_above i no_parent h e = refl
    same_above zero (parent_row p) h e = absurd h
    same_above (suc i) (parent_row p) h e = e p h

    same_below : (n : ℕ) → n ≤ length t.nodes → (k : ℕ) → k < n → get_or cs k no_method ≡ get_or known k no_method
    same_below zero h k g = absurd (not-suc-le-zero g)
    same_below (suc n) h k g = go (same_below n (omega arith)) (le_or_lt n k)
      where
        go : ((j : ℕ) → j < n → get_or cs j no_method ≡ get_or known j no_method) → (n ≤ k) ⊎ (k < n) →
            get_or cs k no_method ≡ get_or known k no_method
        go e (inr l) = e k l
        go e (inl l) =
            let z : n ≡ k = omega arith in
            let inside : k < length t.nodes = omega arith in
            law k inside
            ∙ ap (context_by class (signed_of class name (get_or t.nodes k no_node).tokens))
            (same_above k (get_or t.nodes k no_node).parent (s.parents k inside) (rw z at e))
            ∙ sym (context_above_lem t s k inside)

    pub contexts_only : length cs ≡ length t.nodes → cs ≡ contexts_of class name t.nodes
    contexts_only size =
        let len = contexts_length [] t.nodes in
        ext_get_or no_method cs known (size ∙ sym len) (λ k h. same_below (length t.nodes) (omega arith) k (rw size at h))

  -- each node is changed by the context of its row
  module _ (m : Mapping) where
    node_changed : (done : List Context) (ns : List Node) (k : ℕ) (z : ChangedNode) → k < length ns →
        get_or (changed_nodes m class name done ns) k z ≡
        changed_node m class name (get_or (contexts_from class name done ns) k no_method) (get_or ns k no_node)
    unfolding changed_nodes contexts_from
    node_changed done [] k z h = absurd (not-suc-le-zero h)
    node_changed done (n ∷ ns) zero z h = refl
    node_changed done (n ∷ ns) (suc k) z h = node_changed (done ++ (context_of class name done n ∷ [])) ns k z (omega arith)

pub contexts_used : (m : Mapping) (class : List ℕ) (t : Tree) (i : ℕ) (z : ChangedNode) → i < length t.nodes →
    get_or (changed_in m class t) i z ≡
    changed_node m class (name_in t) (get_or (contexts_of class (name_in t) t.nodes) i no_method) (get_or t.nodes i no_node)
contexts_used m class t i z h = node_changed class (name_in t) m [] t.nodes i z h
