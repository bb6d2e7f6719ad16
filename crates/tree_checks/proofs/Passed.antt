-- All checks of a tree file, one after the other. Assumes nothing.
use Rattle.std.specs.Prelude.{Option, None}
use mathlib.Core.Path.{◌≡◌, sym, ◌∙◌, ap}
use mathlib.Core.Bool.{Bool, true, false, not}
use mathlib.Core.List.{List}
use Prim.Native.Nat.{ℕ, ◌+◌, ◌<◌}
use native.Mathlib.Omega.{arith}
use lib.ListN.{length}
use borrow.Author.Tests.{ne_eqb, eqb-true, leb-true, not-true, not-false}
use borrow.Author.Rules.{rules}
use Rattle.ground.specs.Choice.{both}
use Rattle.tree_rule.specs.declared.TreeCounts.{TreeCounts}
use Rattle.tree_rule.specs.Files.{counts_in, file_length, name_at}
use Rattle.tree_rule.specs.Checks.{
  all_fine,
  length_agrees,
  root_fine,
  faulty_parent,
  counts_sum,
  faulty_token,
  name_inside,
  faulty_name,
  faulty_text,
  checks_pass,
  well_formed_file,
}
use Rattle.tree_checks.specs.Inner.Lie.{NamesLie}
use Rattle.tree_rule.proofs.RowLaws.{fine_told, fine_each}

-- fewer bytes than the counts take
pub too_short : (f : List ℕ) → length f < 16 → false ≡ well_formed_file f
too_short f h =
    sym (rw (ne_eqb (length f) (file_length (counts_in f)) (λ e. let z : length f ≡ file_length (counts_in f) = e in omega arith)))

-- what a check of rows that did not fail says
passed : {b : Bool} {r q : Option ℕ} → r ≡ q → b ≡ all_fine r → not b ≡ false → all_fine q ≡ true
passed {b} e f n = ap all_fine (sym e) ∙ sym f ∙ not-false b n

failed : {b : Bool} {r q : Option ℕ} → r ≡ q → b ≡ all_fine r → not b ≡ true → all_fine q ≡ false
failed {b} e f n = ap all_fine (sym e) ∙ sym f ∙ not-true b n

module _ (f : List ℕ) (c : TreeCounts) (e : c ≡ counts_in f) where
  by_counts : checks_pass c f ≡ well_formed_file f
  by_counts = ap (λ x. checks_pass x f) e

  module _ {b₁ : Bool} (e₁ : b₁ ≡ length_agrees c f) where
    pub length_fails : not b₁ ≡ true → false ≡ well_formed_file f
    length_fails n = sym (rw (sym e₁ ∙ not-true b₁ n)) ∙ by_counts

    module _ (n₁ : not b₁ ≡ false) where
      t₁ : length_agrees c f ≡ true
      t₁ = sym e₁ ∙ not-false b₁ n₁

      pub length_passes : length f ≡ file_length c
      length_passes = eqb-true (length f) (file_length c) t₁

      module _ {b₂ : Bool} (e₂ : b₂ ≡ root_fine c f) where
        pub root_fails : not b₂ ≡ true → false ≡ well_formed_file f
        root_fails n = sym (rw (t₁, sym e₂ ∙ not-true b₂ n)) ∙ by_counts

        module _ (n₂ : not b₂ ≡ false) {b₃ : Bool} {r₃ : Option ℕ} (e₃ : r₃ ≡ faulty_parent c f)
            (f₃ : b₃ ≡ all_fine r₃) where
          t₂ : root_fine c f ≡ true
          t₂ = sym e₂ ∙ not-false b₂ n₂

          pub parents_fail : not b₃ ≡ true → false ≡ well_formed_file f
          parents_fail n = sym (rw (t₁, t₂, failed e₃ f₃ n)) ∙ by_counts

          module _ (n₃ : not b₃ ≡ false) {b₄ : Bool} (e₄ : b₄ ≡ counts_sum c f) where
            t₃ : all_fine (faulty_parent c f) ≡ true
            t₃ = passed e₃ f₃ n₃

            pub sum_fails : not b₄ ≡ true → false ≡ well_formed_file f
            sum_fails n = sym (rw (t₁, t₂, t₃, sym e₄ ∙ not-true b₄ n)) ∙ by_counts

            module _ (n₄ : not b₄ ≡ false) {b₅ : Bool} {r₅ : Option ℕ} (e₅ : r₅ ≡ faulty_token c f)
                (f₅ : b₅ ≡ all_fine r₅) where
              t₄ : counts_sum c f ≡ true
              t₄ = sym e₄ ∙ not-false b₄ n₄

              pub tokens_fail : not b₅ ≡ true → false ≡ well_formed_file f
              tokens_fail n = sym (rw (t₁, t₂, t₃, t₄, failed e₅ f₅ n)) ∙ by_counts

              pub names_told : not b₅ ≡ false → {b₆ : Bool} →
                  b₆ ≡ both (all_fine (faulty_name c f)) (all_fine (faulty_text c f)) → b₆ ≡ well_formed_file f
              names_told n e₆ = e₆ ∙ (sym (rw (t₁, t₂, t₃, t₄, passed e₅ f₅ n)) ∙ by_counts)

-- The two checks of names.
module _ (f : List ℕ) (c : TreeCounts) {b : Bool} {r : Option ℕ} (e : r ≡ faulty_name c f) (g : b ≡ all_fine r) where
  pub names_fail : not b ≡ true → false ≡ both (all_fine (faulty_name c f)) (all_fine (faulty_text c f))
  names_fail n = sym (rw (failed e g n))

  module _ (n : not b ≡ false) where
    pub texts_told : {b₂ : Bool} {r₂ : Option ℕ} → r₂ ≡ faulty_text c f → b₂ ≡ all_fine r₂ →
        b₂ ≡ both (all_fine (faulty_name c f)) (all_fine (faulty_text c f))
    texts_told e₂ g₂ = (g₂ ∙ ap all_fine e₂) ∙ sym (rw (passed e g n))

    -- names that passed, for the check of their texts
    pub names_pass : length f ≡ file_length c → NamesLie c f
    names_pass s =
        let t : faulty_name c f ≡ None = fine_told (faulty_name c f) (passed e g n) in
        record {
          size = s;
          lie = λ i h. leb-true ((name_at c f i).place + (name_at c f i).length) c.bytes
              (fine_each (name_inside c f) 0 c.names t i (omega arith) (omega arith));
        }

pub ruleset naming = (names_fail, texts_told, names_pass, rules)

pub ruleset passing = (too_short, length_fails, length_passes, root_fails, parents_fail, sum_fails, tokens_fail, names_told, rules)
