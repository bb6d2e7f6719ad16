-- Numbers of line contexts. Assumes nothing.
use Rattle.std.specs.Prelude.{Option, Some, None}
use mathlib.Core.Path.{◌≡◌, refl, sym, ◌∙◌, ap}
use mathlib.Core.Bool.{Bool, true, false}
use mathlib.Core.List.{List}
use Prim.Native.Nat.{ℕ, zero, suc, ◌+◌, ◌*◌, ◌^◌, ◌≤◌, ◌<◌}
use native.Mathlib.Omega.{arith}
use lib.ListN.{length}
use mir.Val.{Fits}
use mir.Syntax.{w64}
use borrow.Author.Rules.{rules}
use Rattle.ground.specs.Choice.{pick}
use Rattle.tree_rule.specs.Words.{word_at}
use Rattle.tree_rule.specs.Files.{nodes_start, parent_at}
use Rattle.apply_members.specs.Inner.Notes.{home_row}
use Rattle.apply_plans.specs.Inner.Noted.{word_above, ParentBelow}

module _ (f out : List ℕ) (node : ℕ) where
  pub none_above : node ≡ 0 → 0 ≡ word_above f out node
  none_above e = sym (ap (word_above f out) e)

  module _ (h : node ≡ 0 → ⊥) {p : ℕ} (e : p ≡ parent_at f node) where
    pub above : {w : ℕ} → w ≡ word_at out (16 + 8 * p) → w ≡ word_above f out node
    above g = g ∙ ap (λ x. word_at out (16 + 8 * x)) e ∙ go node h
      where
        go : (n : ℕ) → (n ≡ 0 → ⊥) → word_at out (16 + 8 * parent_at f n) ≡ word_above f out n
        go zero k = absurd (k refl)
        go (suc n) k = refl

    pub above_inside : ParentBelow f node → nodes_start + 8 * node + 8 ≤ length out → 16 + 8 * p + 4 ≤ length out
    above_inside k l =
        let low : p < node = go node h k e in
        omega arith
      where
        go : (n : ℕ) → (n ≡ 0 → ⊥) → ParentBelow f n → p ≡ parent_at f n → p < n
        go zero q r s = absurd (q refl)
        go (suc n) q r s = let z = r.lower (omega arith) in omega arith

    pub above_fits : ParentBelow f node → nodes_start + 8 * node + 8 ≤ length out → length out < 2 ^ 64 → Fits w64 (8 * p)
    above_fits k l m = let z = above_inside k l in omega arith

  pub inherited : {b : Bool} → b ≡ true → {w : ℕ} → w ≡ word_above f out node → (l : ℕ) → w ≡ pick b (word_above f out node) l
  inherited e g l = g ∙ sym (ap (λ x. pick x (word_above f out node) l) e)

  pub own_context : {b : Bool} → b ≡ false → (l : ℕ) → l ≡ pick b (word_above f out node) l
  own_context e l = sym (ap (λ x. pick x (word_above f out node) l) e)

pub ruleset above_reading = (none_above, above, above_inside, above_fits, rules)

pub ruleset context_choosing = (inherited, own_context, rules)

module _ (given : Option ℕ) where
  pub home_found : {i : ℕ} → given ≡ Some i → i ≡ home_row given
  home_found e = sym (ap home_row e)

  pub home_unknown : given ≡ None → 0 ≡ home_row given
  home_unknown e = sym (ap home_row e)

pub ruleset home_finding = (home_found, home_unknown, rules)
