-- What an answer says is what its rule says, test by test. Assumes nothing.
use Rattle.std.specs.Prelude.{Option, Some, None}
use mathlib.Core.Path.{◌≡◌, sym, ◌∙◌, ap, subst}
use mathlib.Core.Bool.{Bool, true, false, not}
use mathlib.Core.List.{List, [], ◌∷◌}
use Prim.Native.Nat.{ℕ, ◌+◌, ◌-◌, ◌≤◌, ◌<◌}
use native.Mathlib.Omega.{arith}
use lib.Dec.{leb}
use borrow.Author.Tests.{lt-leb, le-leb, not-true, not-false}
use borrow.Author.Rules.{rules}
use Rattle.ground.proofs.Cases.{bit_told}
use Rattle.tree_rule.specs.declared.TreeCounts.{TreeCounts}
use Rattle.tree_rule.specs.declared.Owner.{Owner}
use Rattle.tree_rule.specs.declared.Owner.TheVariants.{Given, At}
use Rattle.tree_rule.specs.Words.{list_from}
use Rattle.tree_rule.specs.Trees.{name_in}
use Rattle.tree_rule.specs.Files.{counts_in, token_at, tree_by}
use Rattle.tree_rule.specs.Checks.{well_formed_file}
use Rattle.tree_rule.specs.Signatures.{node_signature, signature_from, member_named}
use Rattle.tree_rule.specs.Theorems.{FormedBy}
use Rattle.tree_rule.proofs.Formed.{formed_by, head_inside}
use Rattle.tree_probes.specs.Answers.{present_numbers, no_numbers, signature_numbers, asked_numbers}
use Rattle.tree_rule.specs.declared.NodeSignature.{NodeSignature}

pub given_numbers : (m d : ℕ) (o : Owner) → o ≡ Given → 1 ∷ m ∷ d ∷ 0 ∷ 0 ∷ [] ≡ present_numbers m d o
given_numbers m d o e = sym (ap (present_numbers m d) e)

pub owner_numbers : (m d : ℕ) (o : Owner) {i : ℕ} → o ≡ At i → 1 ∷ m ∷ d ∷ 1 ∷ i ∷ [] ≡ present_numbers m d o
owner_numbers m d o e = sym (ap (present_numbers m d) e)

pub absent_numbers : (s : Option NodeSignature) → s ≡ None → 0 ∷ 0 ∷ 0 ∷ 0 ∷ 0 ∷ [] ≡ signature_numbers s
absent_numbers s e = sym (ap signature_numbers e)

pub there_numbers : (s : Option NodeSignature) {x : NodeSignature} → s ≡ Some x → {numbers : List ℕ} →
    numbers ≡ present_numbers x.member x.descriptor x.owner → numbers ≡ signature_numbers s
there_numbers s e l = l ∙ sym (ap signature_numbers e)

pub ruleset numbering = (given_numbers, owner_numbers, absent_numbers, there_numbers, rules)

module _ (f : List ℕ) {b : Bool} (e : b ≡ well_formed_file f) where
  pub asked_malformed : (first count : ℕ) → not b ≡ true → 0 ∷ 0 ∷ 0 ∷ 0 ∷ 0 ∷ [] ≡ asked_numbers f first count
  asked_malformed first count n = sym (rw (sym e ∙ not-true b n))

  module _ (n : not b ≡ false) where
    fine : well_formed_file f ≡ true
    fine = sym e ∙ not-false b n

    formed : FormedBy (counts_in f) f
    formed = formed_by (counts_in f) f fine

    pub formed_there : {c : TreeCounts} → c ≡ counts_in f → FormedBy c f
    formed_there g = subst (λ x. FormedBy x f) (sym g) formed

    module _ {c : TreeCounts} (g : c ≡ counts_in f) (first count : ℕ) where
      past : c.tokens < first + count → no_numbers ≡ asked_numbers f first count
      past h = sym (rw (fine, ap (λ x. leb (first + count) x.tokens) (sym g) ∙ lt-leb (first + count) c.tokens h))

      pub asked_after : c.tokens < first → 0 ∷ 0 ∷ 0 ∷ 0 ∷ 0 ∷ [] ≡ asked_numbers f first count
      asked_after h = past (omega arith)

      module _ (i : first ≤ c.tokens) where
        pub asked_past : c.tokens - first < count → 0 ∷ 0 ∷ 0 ∷ 0 ∷ 0 ∷ [] ≡ asked_numbers f first count
        asked_past h = past (omega arith)

        module _ (h : count ≤ c.tokens - first) where
          pub tokens_there : first + count ≤ c.tokens
          tokens_there = omega arith

          pub asked_signature : {s : Option NodeSignature} →
              s ≡ signature_from first (node_signature (name_in (tree_by c f)) (list_from (token_at c f) first count)) →
              {numbers : List ℕ} → numbers ≡ signature_numbers s → numbers ≡ asked_numbers f first count
          asked_signature {s} k l =
              l ∙ ap signature_numbers k
              ∙ ap (λ x. signature_numbers
              (signature_from first (node_signature (name_in (tree_by x f)) (list_from (token_at x f) first count)))) g
              ∙ sym (rw (fine, ap (λ x. leb (first + count) x.tokens) (sym g) ∙ le-leb (first + count) c.tokens (omega arith)))

pub ruleset saying = (bit_told, asked_malformed, head_inside, asked_after, asked_past, formed_there, tokens_there, asked_signature, rules)
