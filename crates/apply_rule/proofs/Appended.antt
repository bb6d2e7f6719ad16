-- The names that are appended: each row names its text, and each replaced token has the number of the row of its own. Assumes nothing.
use mathlib.Core.Path.{◌≡◌, refl, sym, ◌∙◌, ap}
use mathlib.Core.List.{List, [], ◌∷◌, ◌++◌, append_assoc}
use Prim.Native.Nat.{ℕ, zero, suc, ◌+◌, ◌≤◌, ◌<◌}
use native.Mathlib.Nat.{not-suc-le-zero}
use native.Mathlib.Omega.{arith}
use lib.ListN.{length, get_or, take, length-append}
use lib.Seq.{take_at, drop_at, get_or-append-add}
use Rattle.ground.specs.Join.{join}
use Rattle.table_rows.specs.Rows.{text}
use Rattle.tables.specs.Back.{text_in}
use Rattle.name_rule.specs.Mappings.{Mapping}
use Rattle.tree_rule.specs.declared.Token.{Token}
use Rattle.tree_rule.specs.Trees.{Tree, name_in}
use Rattle.tree_rule.specs.Files.{all_tokens}
use Rattle.apply_rule.specs.Changes.{Change, stays, named, lined, Changed}
use Rattle.apply_rule.specs.Applying.{
  token_with,
  name_of,
  new_names,
  numbered,
  name_rows,
  all_changed,
  changed_in,
  applied_tree,
}
use Rattle.apply_rule.specs.Theorems.{Each, each_none, each_one, ComesBy, ComesOut}
use Rattle.apply_rule.proofs.Numbering.{tokens_numbered}

-- Rows of texts that stand one after the other behind the bytes `b`.
behind : (b : List ℕ) (at : ℕ) (s : List ℕ) → length b ≡ at → length (b ++ s) ≡ at + length s
behind b at s e = length-append b s ∙ ap (λ n. n + length s) e

pub new_text : (b : List ℕ) (at : ℕ) (ss : List (List ℕ)) → length b ≡ at → (k : ℕ) → k < length ss →
    text_in (b ++ join ss) (get_or (name_rows at ss) k (text 0 0)) ≡ get_or ss k []
unfolding name_rows join
new_text b at [] e k h = absurd (not-suc-le-zero h)
new_text b at (s ∷ ss) e zero h =
    ap (take (length s)) (drop_at b (s ++ join ss) at e) ∙ take_at s (join ss) (length s) refl
new_text b at (s ∷ ss) e (suc k) h =
    ap (λ l. text_in l (get_or (name_rows (at + length s) ss) k (text 0 0))) (sym (append_assoc b s (join ss)))
    ∙ new_text (b ++ s) (at + length s) ss (behind b at s e) k (omega arith)

pub new_inside : (at : ℕ) (ss : List (List ℕ)) (k : ℕ) → k < length ss →
    (get_or (name_rows at ss) k (text 0 0)).place + (get_or (name_rows at ss) k (text 0 0)).length ≤ at + length (join ss)
unfolding name_rows join
new_inside at [] k h = absurd (not-suc-le-zero h)
new_inside at (s ∷ ss) zero h = let l = length-append s (join ss) in omega arith
new_inside at (s ∷ ss) (suc k) h =
    let l = length-append s (join ss) in
    let later = new_inside (at + length s) ss k (omega arith) in
    omega arith

-- Tokens, where `name` gives the texts of the names that are appended from the number `next` on.
module _ (name : ℕ → List ℕ) where
  abbrev Names : ℕ → List Changed → Type 0
  Names next cs = (k : ℕ) → k < length (new_names cs) → name (next + k) ≡ get_or (new_names cs) k []

  tokens_come : (next : ℕ) (cs : List Changed) → Names next cs → Each (ComesOut name) cs (numbered next cs)
  unfolding numbered new_names
  tokens_come next [] e = each_none
  tokens_come next (c ∷ cs) e = one c.token c.change e (λ n f. tokens_come n cs f)
    where
      one : (token : Token) (change : Change) →
          ((k : ℕ) → k < length (name_of change ++ new_names cs) → name (next + k) ≡ get_or (name_of change ++ new_names cs) k []) →
          ((n : ℕ) → Names n cs → Each (ComesOut name) cs (numbered n cs)) →
          Each (ComesOut name) (record { token = token; change = change } ∷ cs)
          (token_with next change token ∷ numbered (next + length (name_of change)) cs)
      one token stays f again = let z : next + 0 ≡ next = omega arith in each_one refl (again (next + 0) (rw z f))
      one token (named s) f again =
          let z : next + 0 ≡ next = omega arith in
          let comes : ComesBy name token (named s) (token_with next (named s) token) = (next, refl, ap name (sym z) ∙ f 0 (omega arith)) in
          each_one comes
          (again (next + 1) (λ k h. let more : next + 1 + k ≡ next + suc k = omega arith in rw more (f (suc k) (omega arith))))
      one token (lined n) f again = let z : next + 0 ≡ next = omega arith in each_one refl (again (next + 0) (rw z f))

-- The whole.
module _ (m : Mapping) (class : List ℕ) (t : Tree) where
  abbrev new : List (List ℕ)
  new = new_names (all_changed (changed_in m class t))

  -- the names that are appended have the next numbers, in order
  pub appended_names : (k : ℕ) → k < length (new_names (all_changed (changed_in m class t))) →
      name_in (applied_tree m class t) (length t.names + k) ≡ get_or (new_names (all_changed (changed_in m class t))) k []
  appended_names k h =
      ap (text_in (t.bytes ++ join new)) (get_or-append-add t.names (name_rows (length t.bytes) new) k (text 0 0))
      ∙ new_text t.bytes (length t.bytes) new refl k h

  -- each token comes out with what its change says
  pub comes_out : Each (ComesOut (name_in (applied_tree m class t))) (all_changed (changed_in m class t))
      (all_tokens (applied_tree m class t).nodes)
  comes_out =
      rw (tokens_numbered (length t.names) (changed_in m class t))
      (tokens_come (name_in (applied_tree m class t)) (length t.names) (all_changed (changed_in m class t)) appended_names)
