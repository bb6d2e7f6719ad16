-- How the changes of a file go on from node to node. Assumes nothing.
use mathlib.Core.Path.{◌≡◌, refl, ◌∙◌}
use mathlib.Core.List.{List, [], ◌∷◌, ◌++◌}
use Prim.Native.Nat.{ℕ, suc, ◌+◌}
use lib.ListN.{length}
use Rattle.name_rule.specs.Mappings.{Mapping}
use Rattle.tree_rule.specs.declared.TreeCounts.{TreeCounts}
use Rattle.tree_rule.specs.Trees.{name_in}
use Rattle.tree_rule.specs.Files.{token_count_at, nodes_from, tree_by}
use Rattle.tree_rule.specs.Theorems.{FormedBy}
use Rattle.tree_rule.proofs.Reading.{nodeFrom}
use Rattle.apply_rule.specs.Changes.{
  Change,
  stays,
  named,
  lined,
  Context,
  context_of,
  signed_of,
  change_of,
  Changed,
  changed_from,
  changed_nodes,
}
use Rattle.apply_rule.specs.Applying.{all_changed}
use Rattle.apply_rule.specs.Inner.Plans.{
  mapping_in,
  changes_in,
}
use Rattle.apply_rule.proofs.Numbering.{all_changed_length}
use Rattle.apply_rule.proofs.Laid.{all_tokens_length}

-- each token has one
pub changes_length : (classes rows : List (List ℕ)) (pool class : List ℕ) (c : TreeCounts) (f : List ℕ) → FormedBy c f →
    length (changes_in classes rows pool class c f) ≡ c.tokens
changes_length classes rows pool class c f k =
    all_changed_length (mapping_in classes rows pool) class (name_in (tree_by c f)) [] (tree_by c f).nodes ∙ all_tokens_length c f k

module _ (m : Mapping) (class : List ℕ) (name : ℕ → List ℕ) (c : TreeCounts) (f : List ℕ) where
  -- the context of the node of row `i`, whose tokens start at token `t`
  abbrev pub contextFrom : List Context → ℕ → ℕ → Context
  contextFrom done i t = context_of class name done (nodeFrom c f i t)

  -- the tokens of that node, with their changes
  abbrev pub changesFrom : List Context → ℕ → ℕ → List Changed
  changesFrom done i t =
      changed_from (change_of m class name (signed_of class name (nodeFrom c f i t).tokens) (contextFrom done i t)) 0
      (nodeFrom c f i t).tokens

  pub nodes_step : (done : List Context) (i t n : ℕ) →
      all_changed (changed_nodes m class name done (nodes_from c f i t (suc n))) ≡
      changesFrom done i t ++
      all_changed (changed_nodes m class name (done ++ (contextFrom done i t ∷ [])) (nodes_from c f (suc i) (t + token_count_at f i) n))
  unfolding nodes_from changed_nodes all_changed
  nodes_step done i t n = refl
