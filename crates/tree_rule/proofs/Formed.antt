-- What the checks of a tree file say, as plain facts, and the other way. Nothing else opens `well_formed_file`. Assumes nothing.
use Rattle.std.specs.Prelude.{None}
use mathlib.Core.Path.{◌≡◌, refl, sym, ◌∙◌, ap}
use mathlib.Core.Bool.{Bool, true, false, not}
use mathlib.Core.List.{List}
use Prim.Native.Nat.{ℕ, ◌+◌, ◌*◌, ◌-◌, ◌≤◌, ◌<◌}
use native.Mathlib.Omega.{arith}
use lib.Dec.{eqb, leb, ltb}
use lib.ListN.{length}
use borrow.Author.Tests.{le-leb, lt-ltb, eq-eqb, leb-true, ltb-true, eqb-true, eqb-false, not-false}
use Rattle.ground.specs.Choice.{both}
use Rattle.ground.proofs.Cases.{both_left, both_right, clash}
use Rattle.tree_rule.specs.declared.TreeCounts.{TreeCounts}
use Rattle.tree_rule.specs.declared.Token.{Token}
use Rattle.tree_rule.specs.Words.{word_at, sum_from}
use Rattle.tree_rule.specs.Files.{counts_in, file_length, tokens_start, parent_at, token_count_at, token_by, token_row, token_at, name_at}
use Rattle.tree_rule.specs.Checks.{
  all_fine,
  length_agrees,
  root_fine,
  parent_lower,
  faulty_parent,
  counts_sum,
  token_fine,
  token_row_fine,
  faulty_token,
  name_inside,
  faulty_name,
  name_utf8,
  faulty_text,
  checks_pass,
  well_formed_file,
}
use Rattle.tree_rule.specs.Theorems.{FormedBy, FormedTree, NamesBelow}
use Rattle.tree_rule.proofs.RowLaws.{fine_each, each_fine, fine_told}

-- A token passes its check where its kind is known and its names are rows.
module _ (names kind a b : ℕ) where
  names_told : both (ltb a names) (ltb b names) ≡ true → (a < names) × (b < names)
  names_told g = (
    ltb-true a names (both_left (ltb a names) (ltb b names) g),
    ltb-true b names (both_right (ltb a names) (ltb b names) g),
  )

  token_told : token_fine names kind a b ≡ true → (kind ≤ 3) × NamesBelow names (token_by kind a b)
  token_told e = go (eqb kind 0) refl (eqb kind 1) refl (eqb kind 2) refl (eqb kind 3) refl
    where
      go : (p : Bool) → eqb kind 0 ≡ p → (q : Bool) → eqb kind 1 ≡ q → (r : Bool) → eqb kind 2 ≡ r → (s : Bool) →
          eqb kind 3 ≡ s → (kind ≤ 3) × NamesBelow names (token_by kind a b)
      go true w q x r y s z = let k = eqb-true kind 0 w in (omega arith, rw k (omega arith))
      go false w true x r y s z = let k = eqb-true kind 1 x in (omega arith, rw x (names_told (rw (w, x) at e)))
      go false w false x true y s z = let k = eqb-true kind 2 y in (omega arith, rw (x, y) (names_told (rw (w, x, y) at e)))
      go false w false x false y true z = let k = eqb-true kind 3 z in (omega arith, rw (x, y, z) (omega arith))
      go false w false x false y false z = clash e (rw (w, x, y, z))

  token_passes : kind ≤ 3 → NamesBelow names (token_by kind a b) → token_fine names kind a b ≡ true
  token_passes h n = go (eqb kind 0) refl (eqb kind 1) refl (eqb kind 2) refl (eqb kind 3) refl
    where
      pair : (a < names) × (b < names) → both (ltb a names) (ltb b names) ≡ true
      pair g = rw (lt-ltb a names g.0, lt-ltb b names g.1)

      go : (p : Bool) → eqb kind 0 ≡ p → (q : Bool) → eqb kind 1 ≡ q → (r : Bool) → eqb kind 2 ≡ r → (s : Bool) →
          eqb kind 3 ≡ s → token_fine names kind a b ≡ true
      go true w q x r y s z = rw w
      go false w true x r y s z = rw (w, x) (pair (rw x at n))
      go false w false x true y s z = rw (w, x, y) (pair (rw (x, y) at n))
      go false w false x false y true z = rw (w, x, y, z)
      go false w false x false y false z =
          absurd (let i = eqb-false kind 0 w in let j = eqb-false kind 1 x in let k = eqb-false kind 2 y in
          let l = eqb-false kind 3 z in omega arith)

module _ (c : TreeCounts) (f : List ℕ) where
  passed : all_fine (faulty_token c f) ≡ true → (i : ℕ) → i < c.tokens →
      (word_at f (tokens_start c + 12 * i) ≤ 3) × NamesBelow c.names (token_at c f i)
  passed e i h =
      let at : ℕ = tokens_start c + 12 * i in
      token_told c.names (word_at f at) (word_at f (at + 4)) (word_at f (at + 8))
      (fine_each (λ k. token_row_fine c f (tokens_start c + 12 * k)) 0 c.tokens (fine_told (faulty_token c f) e) i (omega arith)
      (omega arith))

  pub formed_by : checks_pass c f ≡ true → FormedBy c f
  formed_by e₁ =
      let a₁ : Bool = length_agrees c f in
      let a₂ : Bool = root_fine c f in
      let a₃ : Bool = all_fine (faulty_parent c f) in
      let a₄ : Bool = counts_sum c f in
      let a₅ : Bool = all_fine (faulty_token c f) in
      let a₆ : Bool = all_fine (faulty_name c f) in
      let a₇ : Bool = all_fine (faulty_text c f) in
      let b₆ : Bool = both a₆ a₇ in
      let b₅ : Bool = both a₅ b₆ in
      let b₄ : Bool = both a₄ b₅ in
      let b₃ : Bool = both a₃ b₄ in
      let b₂ : Bool = both a₂ b₃ in
      let e₂ = both_right a₁ b₂ e₁ in
      let e₃ = both_right a₂ b₃ e₂ in
      let e₄ = both_right a₃ b₄ e₃ in
      let e₅ = both_right a₄ b₅ e₄ in
      let e₆ = both_right a₅ b₆ e₅ in
      let root = both_left a₂ b₃ e₂ in
      record {
        size = eqb-true (length f) (file_length c) (both_left a₁ b₂ e₁);
        some = leb-true 1 c.nodes (both_left (leb 1 c.nodes) (eqb (parent_at f 0) 4294967295) root);
        root = eqb-true (parent_at f 0) 4294967295 (both_right (leb 1 c.nodes) (eqb (parent_at f 0) 4294967295) root);
        lower = λ i l h. ltb-true (parent_at f i) i
            (fine_each (parent_lower f) 1 (c.nodes - 1) (fine_told (faulty_parent c f) (both_left a₃ b₄ e₃)) i l (omega arith));
        sums = eqb-true (sum_from (token_count_at f) 0 c.nodes) c.tokens (both_left a₄ b₅ e₄);
        kinds = λ i h. (passed (both_left a₅ b₆ e₅) i h).0;
        tokens = λ i h. (passed (both_left a₅ b₆ e₅) i h).1;
        inside = λ i h. leb-true ((name_at c f i).place + (name_at c f i).length) c.bytes
            (fine_each (name_inside c f) 0 c.names (fine_told (faulty_name c f) (both_left a₆ a₇ e₆)) i (omega arith) (omega arith));
        utf8 = λ i h. fine_each (name_utf8 c f) 0 c.names (fine_told (faulty_text c f) (both_right a₆ a₇ e₆)) i (omega arith)
            (omega arith);
      }

  pub checks_pass_lem : FormedBy c f → checks_pass c f ≡ true
  checks_pass_lem k =
      let parents : faulty_parent c f ≡ None = each_fine (parent_lower f) 1 (c.nodes - 1)
      (λ i l h. lt-ltb (parent_at f i) i (k.lower i l (omega (arith, k.some)))) in
      let tokens : faulty_token c f ≡ None = each_fine (λ i. token_row_fine c f (tokens_start c + 12 * i)) 0 c.tokens
      (λ i l h. let at : ℕ = tokens_start c + 12 * i in
      token_passes c.names (word_at f at) (word_at f (at + 4)) (word_at f (at + 8)) (k.kinds i (omega arith))
      (k.tokens i (omega arith))) in
      let names : faulty_name c f ≡ None = each_fine (name_inside c f) 0 c.names
      (λ i l h. le-leb ((name_at c f i).place + (name_at c f i).length) c.bytes (k.inside i (omega arith))) in
      let texts : faulty_text c f ≡ None = each_fine (name_utf8 c f) 0 c.names (λ i l h. k.utf8 i (omega arith)) in
      rw (
        eq-eqb (length f) (file_length c) k.size,
        le-leb 1 c.nodes k.some,
        eq-eqb (parent_at f 0) 4294967295 k.root,
        parents,
        eq-eqb (sum_from (token_count_at f) 0 c.nodes) c.tokens k.sums,
        tokens,
        names,
        texts,
      )

pub formed_tree : (f : List ℕ) → well_formed_file f ≡ true → FormedTree f
formed_tree f e = formed_by (counts_in f) f e

pub formed_file : (f : List ℕ) → FormedTree f → well_formed_file f ≡ true
formed_file f k = checks_pass_lem (counts_in f) f k

-- after the code's own test: the counts can be read, and the file is well formed by them
module _ (f : List ℕ) {b : Bool} (e : b ≡ well_formed_file f) (n : not b ≡ false) where
  formed_told : FormedTree f
  formed_told = formed_tree f (sym e ∙ not-false b n)

  pub head_inside : 16 ≤ length f
  head_inside = let k = formed_told in omega (arith, k.size)

-- a token, as it is read from its row
pub token_read : (c : TreeCounts) (f : List ℕ) (i : ℕ) {a : ℕ} → a ≡ tokens_start c → {t : Token} →
    t ≡ token_row f (a + 12 * i) → token_at c f i ≡ t
token_read c f i e g = sym (g ∙ ap (λ x. token_row f (x + 12 * i)) e)

-- its row lies in the file
pub row_inside : (c : TreeCounts) (f : List ℕ) (i : ℕ) {a : ℕ} → a ≡ tokens_start c → FormedBy c f → i < c.tokens →
    a + 12 * i + 12 ≤ length f
row_inside c f i e k h = omega (arith, k.size)

pub names_inside : (c : TreeCounts) (f : List ℕ) → FormedBy c f → file_length c ≤ length f
names_inside c f k = omega (arith, k.size)
