-- Blocks of bytes that are alike. Assumes nothing.
use mathlib.Core.Path.{◌≡◌, refl, sym, ◌∙◌, ap}
use mathlib.Core.Bool.{Bool, true, false}
use mathlib.Core.List.{List}
use mathlib.Core.Logic.{◌⊎◌, inl, inr}
use Prim.Native.Nat.{ℕ, ◌+◌, ◌-◌, ◌^◌, ◌≤◌, ◌<◌}
use native.Mathlib.Omega.{arith}
use lib.Dec.{eqb}
use lib.ListN.{length, get_or}
use mir.Val.{Fits}
use mir.Syntax.{w64}
use borrow.Author.Tests.{eqb-true}
use borrow.Author.Rules.{rules}
use Rattle.ground.specs.Choice.{pick}
use Rattle.ground.proofs.Cases.{le_or_lt, clash}
use Rattle.table_pool.specs.Inner.Named.{slash_if}
use Rattle.table_index.specs.Inner.Order.{AlikeTo}

-- what was passed of a block: where nothing differed, all of it is alike
pub record Passing (text : List ℕ) (at : ℕ) (name : List ℕ) («from» : ℕ) (dots : Bool) (differs : Bool) (i : ℕ) : Type 0 where
  pub few : i ≤ 16
  pub alike : differs ≡ false → (k : ℕ) → k < i → get_or text (at + k) 0 ≡ slash_if dots (get_or name («from» + k) 0)

pub passing_none : (text : List ℕ) (at : ℕ) (name : List ℕ) («from» : ℕ) (dots : Bool) →
    Passing text at name «from» dots false 0
passing_none text at name f dots = record { few = omega arith; alike = λ e k h. absurd (omega arith) }

module _ {text : List ℕ} {at : ℕ} {name : List ℕ} {«from» : ℕ} {dots differs : Bool} {i : ℕ}
    (p : Passing text at name «from» dots differs i) where
  pub passing_more : i < 16 → {x : ℕ} → x ≡ slash_if dots (get_or name («from» + i) 0) →
      {r : Bool} → r ≡ pick (eqb (get_or text (at + i) 0) x) differs true → Passing text at name «from» dots r (i + 1)
  passing_more h {x} f {r} e = record {
    few = omega arith;
    alike = λ o k l. go (eqb (get_or text (at + i) 0) x) refl (sym e ∙ o) k l (le_or_lt i k);
  }
    where
      go : (t : Bool) → eqb (get_or text (at + i) 0) x ≡ t → pick t differs true ≡ false → (k : ℕ) → k < i + 1 →
          (i ≤ k) ⊎ (k < i) →
          get_or text (at + k) 0 ≡ slash_if dots (get_or name («from» + k) 0)
      go false q o k l w = clash refl o
      go true q o k l (inl g) = let j : k ≡ i = omega arith in rw j (eqb-true (get_or text (at + i) 0) x q ∙ f)
      go true q o k l (inr g) = p.alike o k g

  pub passing_all : 16 ≤ i → differs ≡ false → (k : ℕ) → k < 16 →
      get_or text (at + k) 0 ≡ slash_if dots (get_or name («from» + k) 0)
  passing_all h o k l = p.alike o k (omega arith)

pub ruleset passing = (passing_none, passing_more, passing_all, rules)

pub skipped_none : (text : List ℕ) {shift : ℕ} (name : List ℕ) (dots : Bool) → shift ≤ length text →
    AlikeTo text shift name dots 0
skipped_none text name dots h = record { in_text = omega arith; in_name = omega arith; each = λ j l. absurd (omega arith) }

module _ {text : List ℕ} {shift : ℕ} {name : List ℕ} {dots : Bool} {k : ℕ} (x : AlikeTo text shift name dots k) where
  pub skipped_name : k ≤ length name
  skipped_name = x.in_name

  pub skipped_text : shift + k ≤ length text
  skipped_text = x.in_text

  pub skipped_fits : length text < 2 ^ 64 → Fits w64 (shift + k)
  skipped_fits f = let i = x.in_text in omega arith

  module _ (h : 16 ≤ length name - k) where
    pub skipped_in_name : k + 16 ≤ length name
    skipped_in_name = let i = x.in_name in omega arith

    pub skipped_next_fits : length name < 2 ^ 64 → Fits w64 (k + 16)
    skipped_next_fits f = let i = x.in_name in omega arith

    pub skipped_less : length name - (k + 16) < length name - k
    skipped_less = let i = x.in_name in omega arith

    module _ (l : 16 ≤ length text - (shift + k)) where
      pub skipped_in_text : shift + k + 16 ≤ length text
      skipped_in_text = let i = x.in_text in omega arith

      pub skipped_more : {r : Bool} →
          (r ≡ false → (j : ℕ) → j < 16 → get_or text (shift + k + j) 0 ≡ slash_if dots (get_or name (k + j) 0)) → r ≡ false →
          AlikeTo text shift name dots (k + 16)
      skipped_more f o = record {
        in_text = let i = x.in_text in omega arith;
        in_name = skipped_in_name;
        each = λ j m. go j m (le_or_lt k j);
      }
        where
          go : (j : ℕ) → j < k + 16 → (k ≤ j) ⊎ (j < k) → get_or text (shift + j) 0 ≡ slash_if dots (get_or name j 0)
          go j m (inl q) =
              let a : shift + j ≡ shift + k + (j - k) = omega arith in
              let b : k + (j - k) ≡ j = omega arith in
              ap (λ n. get_or text n 0) a ∙ f o (j - k) (omega arith) ∙ ap (λ n. slash_if dots (get_or name n 0)) b
          go j m (inr q) = x.each j q

pub ruleset skipping = (
  skipped_none,
  skipped_name,
  skipped_text,
  skipped_fits,
  skipped_in_name,
  skipped_next_fits,
  skipped_less,
  skipped_in_text,
  skipped_more,
  rules,
)
