-- Walks over the tokens of a node, forwards and backwards. Assumes nothing.
use Rattle.std.specs.Prelude.{Option, Some, None}
use mathlib.Core.Path.{◌≡◌, refl, sym, ◌∙◌, ap}
use mathlib.Core.Bool.{Bool, true, false}
use mathlib.Core.List.{List, ◌∷◌}
use Prim.Native.Nat.{ℕ, zero, suc, ◌+◌, ◌*◌, ◌-◌, ◌≤◌, ◌<◌}
use native.Mathlib.Numerals.{add-one}
use native.Mathlib.Omega.{arith}
use lib.Dec.{eqb}
use borrow.Author.Tests.{eq-eqb, ne_eqb, eqb-true, eqb-false}
use borrow.Author.Rules.{rules}
use Rattle.ground.specs.Choice.{pick}
use Rattle.text_places.specs.Places.{or_else}
use Rattle.tree_rule.specs.declared.TreeCounts.{TreeCounts}
use Rattle.tree_rule.specs.declared.Token.{Token}
use Rattle.tree_rule.specs.declared.Owner.{Owner}
use Rattle.tree_rule.specs.declared.Owner.TheVariants.{Given, At as TokenAt}
use Rattle.tree_rule.specs.Words.{word_at, list_from}
use Rattle.tree_rule.specs.Trees.{name_in}
use Rattle.tree_rule.specs.Files.{token_by, token_at, tree_by}
use Rattle.tree_rule.specs.Signatures.{first_token, last_token, is_owner, owner_by, owner_from}
use Rattle.tree_signature.specs.Inner.Tokens.{kind_of, of_kind, row_of, token_of, described_as}
use Rattle.tree_signature.proofs.TokenLaws.{owner_told}

-- the kind of a token, by the number that stands in its row
kind_by : (w a b kind : ℕ) → 1 ≤ kind → kind ≤ 3 → eqb (kind_of (token_by w a b)) kind ≡ eqb w kind
kind_by w a b kind l h = go (eqb w 1) refl (eqb w 2) refl (eqb w 3) refl
  where
    go : (p : Bool) → eqb w 1 ≡ p → (q : Bool) → eqb w 2 ≡ q → (r : Bool) → eqb w 3 ≡ r →
        eqb (kind_of (token_by w a b)) kind ≡ eqb w kind
    go true x q y r z = rw (eqb-true w 1 x)
    go false x true y r z = rw (eqb-true w 2 y)
    go false x false y true z = rw (eqb-true w 3 z)
    go false x false y false z =
        let none : w ≡ kind → ⊥ =
        λ e. let s : w ≡ kind = e in let x' = eqb-false w 1 x in let y' = eqb-false w 2 y in let z' = eqb-false w 3 z in
        omega arith in
        rw (x, y, z, ne_eqb w kind none) (ne_eqb 0 kind (λ e. let s : 0 ≡ kind = e in omega arith))

-- Forwards: the first from here on is the first of all.
pub record Walking (f : List ℕ) (base kind n : ℕ) (whole : Option ℕ) (k : ℕ) : Type 0 where
  pub decides : first_token (of_kind kind) k (list_from (row_of f base) k (n - k)) ≡ whole

pub walking_starts : (f : List ℕ) (base kind n s : ℕ) →
    Walking f base kind n (first_token (of_kind kind) s (list_from (row_of f base) s (n - s))) s
walking_starts f base kind n s = record { decides = refl }

module _ {f : List ℕ} {base kind n : ℕ} {whole : Option ℕ} {k : ℕ} (u : Walking f base kind n whole k) where
  pub walking_ends : n ≤ k → None ≡ whole
  unfolding first_token list_from
  walking_ends h = let z : n - k ≡ 0 = omega arith in rw z at u.decides

  module _ (h : k < n) (l : 1 ≤ kind) (m : kind ≤ 3) {w : ℕ} (e : w ≡ word_at f (base + 12 * k)) where
    here : pick (eqb w kind) (Some k) (first_token (of_kind kind) (suc k) (list_from (row_of f base) (suc k) (n - suc k))) ≡ whole
    unfolding first_token list_from
    here =
        let z : n - k ≡ suc (n - suc k) = omega arith in
        let at : ℕ = base + 12 * k in
        rw (e, ← kind_by (word_at f at) (word_at f (at + 4)) (word_at f (at + 8)) kind l m) (rw z at u.decides)

    pub walking_found : w ≡ kind → Some k ≡ whole
    walking_found g = rw (eq-eqb w kind g) at here

    pub walking_more : (w ≡ kind → ⊥) → Walking f base kind n whole (k + 1)
    walking_more g = record { decides = rw add-one (rw (ne_eqb w kind g) at here) }

pub ruleset walking = (walking_starts, walking_ends, walking_found, walking_more, rules)

-- Backwards: there is none from here on.
last_cons : (p : Token → Bool) (at : ℕ) (t : Token) (ts : List Token) →
    last_token p at (t ∷ ts) ≡ or_else (last_token p (suc at) ts) (pick (p t) (Some at) None)
unfolding last_token
last_cons p at t ts = refl

list_cons : (g : ℕ → Token) (k n : ℕ) → k < n → list_from g k (n - k) ≡ g k ∷ list_from g (suc k) (n - suc k)
unfolding list_from
list_cons g k n h = let z : n - k ≡ suc (n - suc k) = omega arith in rw z

-- a last token from somewhere on is the last of all
last_stays : (p : Token → Bool) (g : ℕ → Token) (n k i : ℕ) → k ≤ n → last_token p k (list_from g k (n - k)) ≡ Some i →
    last_token p 0 (list_from g 0 n) ≡ Some i
last_stays p g n zero i h e = let z : n - 0 ≡ n = omega arith in rw z at e
last_stays p g n (suc k) i h e =
    last_stays p g n k i (omega arith) (ap (last_token p k) (list_cons g k n h) ∙ last_cons p k (g k) (list_from g (suc k) (n - suc k))
    ∙ rw e)

-- where there is none behind a token, the token itself decides
step_back : (p : Token → Bool) (g : ℕ → Token) (n k : ℕ) → k < n →
    last_token p (suc k) (list_from g (suc k) (n - suc k)) ≡ None →
    last_token p k (list_from g k (n - k)) ≡ pick (p (g k)) (Some k) None
step_back p g n k h e = ap (last_token p k) (list_cons g k n h) ∙ last_cons p k (g k) (list_from g (suc k) (n - suc k)) ∙ rw e

abbrev owns : TreeCounts → List ℕ → Token → Bool
owns c f t = is_owner (name_in (tree_by c f)) t

pub record Backing (c : TreeCounts) (f : List ℕ) (first n «end» : ℕ) : Type 0 where
  pub inside : «end» ≤ n
  pub none : last_token (owns c f) «end» (list_from (token_of c f first) «end» (n - «end»)) ≡ None

pub backing_starts : (c : TreeCounts) (f : List ℕ) (first n : ℕ) → Backing c f first n n
unfolding last_token list_from
backing_starts c f first n = let z : n - n ≡ 0 = omega arith in record { inside = omega arith; none = rw z }

module _ {c : TreeCounts} {f : List ℕ} {first n «end» : ℕ} (u : Backing c f first n «end») where
  abbrev whole : Owner
  whole = owner_from first (owner_by (last_token (owns c f) 0 (list_from (token_of c f first) 0 n)))

  pub backing_ends : «end» ≤ 0 → Given ≡ whole
  backing_ends h =
      let z : «end» ≡ 0 = omega arith in
      let y : n - 0 ≡ n = omega arith in
      let none : last_token (owns c f) 0 (list_from (token_of c f first) 0 n) ≡ None = rw (z, y) at u.none in
      sym (ap (λ x. owner_from first (owner_by x)) none)

  module _ (h : 0 < «end») where
    before : last_token (owns c f) («end» - 1) (list_from (token_of c f first) («end» - 1) (n - («end» - 1))) ≡
        pick (owns c f (token_of c f first («end» - 1))) (Some («end» - 1)) None
    before =
        let up : «end» ≡ suc («end» - 1) = omega arith in
        step_back (owns c f) (token_of c f first) n («end» - 1) (omega (arith, u.inside)) (rw up at u.none)

    module _ {b : Bool} (d : b ≡ described_as false (name_in (tree_by c f)) (token_at c f (first + («end» - 1)))) where
      e : b ≡ owns c f (token_at c f (first + («end» - 1)))
      e = owner_told (name_in (tree_by c f)) (token_at c f (first + («end» - 1))) d

      pub backing_found : b ≡ true → TokenAt (first + («end» - 1)) ≡ whole
      backing_found g =
          let found : last_token (owns c f) («end» - 1) (list_from (token_of c f first) («end» - 1) (n - («end» - 1))) ≡ Some
          («end» - 1) =
          before ∙ ap (λ x. pick x (Some («end» - 1)) None) (sym e ∙ g) in
          sym (ap (λ x. owner_from first (owner_by x))
          (last_stays (owns c f) (token_of c f first) n («end» - 1) («end» - 1) (omega (arith, u.inside)) found))

      pub backing_more : b ≡ false → Backing c f first n («end» - 1)
      backing_more g = record {
        inside = omega (arith, u.inside);
        none = before ∙ ap (λ x. pick x (Some («end» - 1)) None) (sym e ∙ g);
      }

    pub backing_inside : first + n ≤ c.tokens → first + («end» - 1) < c.tokens
    backing_inside l = omega (arith, u.inside)

pub ruleset backing = (backing_starts, backing_ends, backing_found, backing_more, backing_inside, rules)
