-- The signature of a node, put together from three walks. Assumes nothing.
use Rattle.std.specs.Prelude.{Option, Some, None}
use mathlib.Core.Path.{◌≡◌, refl, sym, ◌∙◌, ap}
use mathlib.Core.Bool.{Bool, true, false}
use mathlib.Core.List.{List, [], ◌∷◌}
use Prim.Native.Nat.{ℕ, suc, ◌+◌, ◌*◌, ◌-◌, ◌^◌, ◌≤◌, ◌<◌}
use native.Mathlib.Omega.{arith}
use lib.ListN.{length, take, drop}
use mir.Syntax.{w64}
use mir.Val.{Fits}
use borrow.Author.Rules.{rules}
use Rattle.ground.specs.Choice.{pick}
use Rattle.tree_rule.specs.declared.TreeCounts.{TreeCounts}
use Rattle.tree_rule.specs.declared.Token.{Token}
use Rattle.tree_rule.specs.declared.Token.TheVariants.{Other, MemberName, Descriptor, SourceLine}
use Rattle.tree_rule.specs.declared.Owner.{Owner}
use Rattle.tree_rule.specs.Words.{list_from}
use Rattle.tree_rule.specs.Trees.{name_in}
use Rattle.tree_rule.specs.Files.{tokens_start, token_row, token_at, tree_by}
use Rattle.tree_rule.specs.Signatures.{first_token, last_token, is_member_name, is_descriptor, is_owner, member_place, descriptor_place, owner_place, owner_by, signature_with, signature_for, node_signature, owner_from, signature_from, member_named}
use Rattle.tree_rule.specs.Theorems.{FormedBy}
use Rattle.tree_rule.proofs.RowLaws.{list_length, list_drop, list_take, list_same}
use Rattle.tree_signature.specs.Inner.Tokens.{of_kind, row_of, token_of}
use Rattle.tree_rule.specs.declared.NodeSignature.{NodeSignature}
use Rattle.ground.proofs.Answered.{none_on}

-- a first token lies among those that are asked
first_inside : (p : Token → Bool) (at : ℕ) (ts : List Token) {i : ℕ} → first_token p at ts ≡ Some i → i < at + length ts
unfolding first_token
first_inside p at [] e = absurd (let z : ◌≡◌ {A = ℕ} 0 1 = cc in omega arith)
first_inside p at (t ∷ ts) {i} e = go (p t) e (λ g. first_inside p (suc at) ts g)
  where
    go : (b : Bool) → pick b (Some at) (first_token p (suc at) ts) ≡ Some i →
        (first_token p (suc at) ts ≡ Some i → i < suc at + length ts) → i < at + suc (length ts)
    go true f later = let q : at ≡ i = cc in omega arith
    go false f later = let h = later f in omega arith

-- two tests that agree
first_same : (p q : Token → Bool) → ((t : Token) → p t ≡ q t) → (at : ℕ) (ts : List Token) →
    first_token p at ts ≡ first_token q at ts
unfolding first_token
first_same p q e at [] = refl
first_same p q e at (t ∷ ts) = rw (e t, first_same p q e (suc at) ts)

member_kind : (t : Token) → of_kind 1 t ≡ is_member_name t
member_kind (Other a b) = refl
member_kind (MemberName a b) = refl
member_kind (Descriptor a b) = refl
member_kind (SourceLine a b) = refl

descriptor_kind : (t : Token) → of_kind 2 t ≡ is_descriptor t
descriptor_kind (Other a b) = refl
descriptor_kind (MemberName a b) = refl
descriptor_kind (Descriptor a b) = refl
descriptor_kind (SourceLine a b) = refl

module _ (c : TreeCounts) (f : List ℕ) (first count : ℕ) where
  -- the node's tokens
  abbrev ts : List Token
  ts = list_from (token_at c f) first count

  abbrev name : ℕ → List ℕ
  name n = name_in (tree_by c f) n

  abbrev signed : Option NodeSignature
  signed = signature_from first (node_signature name ts)

  module _ {a : ℕ} (e : a ≡ tokens_start c) where
    -- rows by their places, and by their numbers
    rows_are : (k n : ℕ) → list_from (row_of f (a + 12 * first)) k n ≡ list_from (token_at c f) (first + k) n
    rows_are k n =
        list_same (row_of f (a + 12 * first)) (token_at c f) k (first + k) n (λ i h. ap (token_row f)
        (let z : a + 12 * first + 12 * (k + i) ≡ tokens_start c + 12 * (first + k + i) = omega arith in z))

    module _ {o : Option ℕ} (g : o ≡ first_token (of_kind 1) 0 (list_from (row_of f (a + 12 * first)) 0 (count - 0))) where
      member_found : o ≡ member_place ts
      member_found =
          let z : count - 0 ≡ count = omega arith in
          let y : first + 0 ≡ first = omega arith in
          g ∙ first_same (of_kind 1) is_member_name member_kind 0 (list_from (row_of f (a + 12 * first)) 0 (count - 0))
          ∙ ap (first_token is_member_name 0) (rows_are 0 (count - 0) ∙ rw (z, y))

      pub no_member : o ≡ None → None ≡ signed
      no_member h = sym (ap (λ x. signature_from first (signature_for name ts x)) (sym member_found ∙ h))

      module _ {m : ℕ} (h : o ≡ Some m) where
        member_inside : m < count
        member_inside =
            let i = first_inside is_member_name 0 ts (sym member_found ∙ h) in
            let n = list_length (token_at c f) first count in
            omega arith

        -- sums of numbers of tokens
        module _ (k : FormedBy c f) (l : first + count ≤ c.tokens) where
          pub before_member : first + m ≤ c.tokens
          before_member = let j = member_inside in omega arith

          module _ (s : length f < 2 ^ 64) where
            pub next_fits : Fits w64 (m + 1)
            next_fits = let j = member_inside in record { fits = omega (arith, k.size) }

            pub member_fits : Fits w64 (first + m)
            member_fits = let j = member_inside in record { fits = omega (arith, k.size) }

        signed_member : signed ≡ signature_from first (signature_with m (descriptor_place m ts) (owner_by (owner_place name m ts)))
        signed_member = ap (λ x. signature_from first (signature_for name ts x)) (sym member_found ∙ h)

        module _ {q : Option ℕ} (k : q ≡ first_token (of_kind 2) (m + 1) (list_from (row_of f (a + 12 * first)) (m + 1) (count - (m + 1)))) where
          descriptor_found : q ≡ descriptor_place m ts
          descriptor_found =
              k ∙ first_same (of_kind 2) is_descriptor descriptor_kind (m + 1)
              (list_from (row_of f (a + 12 * first)) (m + 1) (count - (m + 1)))
              ∙ ap (first_token is_descriptor (m + 1)) (rows_are (m + 1) (count - (m + 1))
              ∙ sym (list_drop (token_at c f) first count (m + 1)))

          pub no_descriptor : q ≡ None → None ≡ signed
          no_descriptor l =
              sym (signed_member
              ∙ ap (λ x. signature_from first (signature_with m x (owner_by (owner_place name m ts)))) (sym descriptor_found ∙ l))

          module _ {d : ℕ} (l : q ≡ Some d) where
            descriptor_inside : d < count
            descriptor_inside =
                let i = first_inside is_descriptor (m + 1) (drop (m + 1) ts) (sym descriptor_found ∙ l) in
                let n : length (drop (m + 1) ts) ≡ count - (m + 1) =
                ap length (list_drop (token_at c f) first count (m + 1)) ∙ list_length (token_at c f) (first + (m + 1)) (count - (m + 1)) in
                let j = member_inside in
                omega arith

            pub descriptor_fits : FormedBy c f → first + count ≤ c.tokens → length f < 2 ^ 64 → Fits w64 (first + d)
            descriptor_fits z b s = let j = descriptor_inside in record { fits = omega (arith, z.size) }

            pub signature_told : {w : Owner} →
                w ≡ owner_from first (owner_by (last_token (is_owner name) 0 (list_from (token_of c f first) 0 m))) →
                Some (member_named (first + m) (first + d) w) ≡ signed
            signature_told u =
                let before : list_from (token_of c f first) 0 m ≡ take m ts =
                list_same (token_of c f first) (token_at c f) 0 first m (λ i b. let z : first + (0 + i) ≡ first + i = omega arith in
                ap (token_at c f) z)
                ∙ sym (list_take (token_at c f) first count m (let j = member_inside in omega arith)) in
                sym (signed_member
                ∙ ap (λ x. signature_from first (signature_with m x (owner_by (owner_place name m ts)))) (sym descriptor_found ∙ l)
                ∙ ap (λ o. Some (member_named (first + m) (first + d) o)) (sym (u
                ∙ ap (λ x. owner_from first (owner_by (last_token (is_owner name) 0 x))) before)))

-- the rows of a node's tokens lie in the file
pub rows_inside : (c : TreeCounts) (f : List ℕ) (first count : ℕ) {a : ℕ} → a ≡ tokens_start c → FormedBy c f →
    first + count ≤ c.tokens →
    a + 12 * first + 12 * count ≤ length f
rows_inside c f first count e k h = omega (arith, k.size)

pub ruleset signing = (none_on, no_member, before_member, next_fits, member_fits, no_descriptor, descriptor_fits, signature_told, rows_inside, rules)
