-- Rows by their numbers: lists, sums, and the first faulty one. Assumes nothing.
use Rattle.std.specs.Prelude.{Option, Some, None}
use mathlib.Core.Path.{◌≡◌, refl}
use mathlib.Core.Bool.{Bool, true, false}
use mathlib.Core.List.{List, [], ◌∷◌, ◌++◌}
use mathlib.Core.Logic.{◌⊎◌, inl, inr}
use Prim.Native.Nat.{ℕ, zero, suc, ◌+◌, ◌-◌, ◌≤◌, ◌<◌}
use native.Mathlib.Nat.{not-suc-le-zero}
use native.Mathlib.Omega.{arith}
use lib.ListN.{length, get_or, take, drop}
use Rattle.ground.specs.Choice.{pick}
use Rattle.ground.proofs.Cases.{clash, le_or_lt}
use Rattle.tree_rule.specs.Words.{list_from, sum_from}
use Rattle.tree_rule.specs.Checks.{first_faulty, all_fine}
use Rattle.tree_rule.specs.Theorems.{Every, every_none, every_one, FaultyRow}

-- Lists.
module _ {A : Type 0} (f : ℕ → A) where
  pub list_length : (i n : ℕ) → length (list_from f i n) ≡ n
  unfolding list_from
  list_length i zero = refl
  list_length i (suc n) = rw (list_length (suc i) n)

  pub list_at : (i n k : ℕ) (z : A) → k < n → get_or (list_from f i n) k z ≡ f (i + k)
  unfolding list_from
  list_at i zero k z h = absurd (not-suc-le-zero h)
  list_at i (suc n) zero z h = let e : i + 0 ≡ i = omega arith in rw e
  list_at i (suc n) (suc k) z h = let e : i + suc k ≡ suc i + k = omega arith in rw e (list_at (suc i) n k z (omega arith))

  pub list_append : (i n m : ℕ) → list_from f i (n + m) ≡ list_from f i n ++ list_from f (i + n) m
  unfolding list_from
  list_append i zero m = let e : 0 + m ≡ m = omega arith in let z : i + 0 ≡ i = omega arith in rw (e, z)
  list_append i (suc n) m =
      let e : suc n + m ≡ suc (n + m) = omega arith in
      let z : i + suc n ≡ suc i + n = omega arith in
      rw (e, z, list_append (suc i) n m)

  pub list_drop : (i n k : ℕ) → drop k (list_from f i n) ≡ list_from f (i + k) (n - k)
  unfolding list_from
  list_drop i n zero = let e : i + 0 ≡ i = omega arith in let z : n - 0 ≡ n = omega arith in rw (e, z)
  list_drop i zero (suc k) = let z : 0 - suc k ≡ 0 = omega arith in rw z
  list_drop i (suc n) (suc k) =
      let e : i + suc k ≡ suc i + k = omega arith in
      let z : suc n - suc k ≡ n - k = omega arith in
      rw (e, z) (list_drop (suc i) n k)

  pub list_take : (i n k : ℕ) → k ≤ n → take k (list_from f i n) ≡ list_from f i k
  unfolding list_from
  list_take i n zero h = refl
  list_take i zero (suc k) h = absurd (not-suc-le-zero h)
  list_take i (suc n) (suc k) h = rw (list_take (suc i) n k (omega arith))

  -- two ways to number the same rows
  pub list_same : (g : ℕ → A) (i j n : ℕ) → ((k : ℕ) → k < n → f (i + k) ≡ g (j + k)) → list_from f i n ≡ list_from g j n
  unfolding list_from
  list_same g i j zero e = refl
  list_same g i j (suc n) e =
      let a : i + 0 ≡ i = omega arith in
      let b : j + 0 ≡ j = omega arith in
      let head : f i ≡ g j = rw (a, b) at (e 0 (omega arith)) in
      rw (
        head,
        list_same g (suc i) (suc j) n (λ k h. let c : suc i + k ≡ i + suc k = omega arith in
            let d : suc j + k ≡ j + suc k = omega arith in rw (c, d) (e (suc k) (omega arith))),
      )

-- Every element, by its number.
pub every_at : {A : Type 0} {P : A → Type 0} (z : A) (l : List A) → Every P l → (i : ℕ) → i < length l → P (get_or l i z)
every_at z [] e i h = absurd (not-suc-le-zero h)
every_at z (x ∷ l) (every_one p e) zero h = p
every_at z (x ∷ l) (every_one p e) (suc i) h = every_at z l e i (omega arith)

pub every_row : {A : Type 0} (P : A → Type 0) (g : ℕ → A) (i n : ℕ) → ((k : ℕ) → i ≤ k → k < i + n → P (g k)) →
    Every P (list_from g i n)
unfolding list_from
every_row P g i zero h = every_none
every_row P g i (suc n) h =
    every_one (h i (omega arith) (omega arith)) (every_row P g (suc i) n (λ k l u. h k (omega arith) (omega arith)))

-- Sums.
module _ (f : ℕ → ℕ) where
  pub sum_append : (i n m : ℕ) → sum_from f i (n + m) ≡ sum_from f i n + sum_from f (i + n) m
  unfolding sum_from
  sum_append i zero m = let e : 0 + m ≡ m = omega arith in let z : i + 0 ≡ i = omega arith in rw (e, z) (omega arith)
  sum_append i (suc n) m =
      let e : suc n + m ≡ suc (n + m) = omega arith in
      let z : i + suc n ≡ suc i + n = omega arith in
      rw (e, z, sum_append (suc i) n m) (omega arith)

  -- a sum of fewer is no greater
  pub sum_less : (i n m : ℕ) → n ≤ m → sum_from f i n ≤ sum_from f i m
  sum_less i n m h = let e : m ≡ n + (m - n) = omega arith in rw e (rw (sum_append i n (m - n)) (omega arith))

-- The first faulty row.
module _ (p : ℕ → Bool) where
  fine_head : (i n : ℕ) → first_faulty p i (suc n) ≡ None → (p i ≡ true) × (first_faulty p (suc i) n ≡ None)
  unfolding first_faulty
  fine_head i n e = go (p i) refl e
    where
      go : (b : Bool) → p i ≡ b → pick b (first_faulty p (suc i) n) (Some i) ≡ None →
          (p i ≡ true) × (first_faulty p (suc i) n ≡ None)
      go true q f = (q, f)
      go false q f = absurd (let z : ◌≡◌ {A = ℕ} 0 1 = cc in omega arith)

  pub fine_each : (i n : ℕ) → first_faulty p i n ≡ None → (k : ℕ) → i ≤ k → k < i + n → p k ≡ true
  fine_each i zero e k l h = absurd (omega arith)
  fine_each i (suc n) e k l h = go (λ g. fine_each (suc i) n (fine_head i n e).1 k g (omega arith)) (le_or_lt (suc i) k)
    where
      go : (suc i ≤ k → p k ≡ true) → (suc i ≤ k) ⊎ (k < suc i) → p k ≡ true
      go later (inl g) = later g
      go later (inr g) = let z : k ≡ i = omega arith in rw z (fine_head i n e).0

  pub each_fine : (i n : ℕ) → ((k : ℕ) → i ≤ k → k < i + n → p k ≡ true) → first_faulty p i n ≡ None
  unfolding first_faulty
  each_fine i zero e = refl
  each_fine i (suc n) e = rw (e i (omega arith) (omega arith)) (each_fine (suc i) n (λ k l h. e k (omega arith) (omega arith)))

  pub faulty_row : (i n : ℕ) {k : ℕ} → first_faulty p i n ≡ Some k → FaultyRow p i n k
  unfolding first_faulty
  faulty_row i zero e = absurd (let z : ◌≡◌ {A = ℕ} 0 1 = cc in omega arith)
  faulty_row i (suc n) {k} e = go (p i) refl e (λ f. faulty_row (suc i) n f)
    where
      go : (b : Bool) → p i ≡ b → pick b (first_faulty p (suc i) n) (Some i) ≡ Some k →
          (first_faulty p (suc i) n ≡ Some k → FaultyRow p (suc i) n k) → FaultyRow p i (suc n) k
      go true q f again =
          let r = again f in
          record {
            «from» = omega (arith, r.«from»);
            below = omega (arith, r.below);
            fails = r.fails;
            before = λ j l h. earlier j l h r.before (le_or_lt (suc i) j);
          }
        where
          earlier : (j : ℕ) → i ≤ j → j < k → ((j : ℕ) → suc i ≤ j → j < k → p j ≡ true) →
              (suc i ≤ j) ⊎ (j < suc i) → p j ≡ true
          earlier j l h w (inl g) = w j g h
          earlier j l h w (inr g) = let z : j ≡ i = omega arith in rw z q
      go false q f again =
          let z : i ≡ k = cc in
          record { «from» = omega arith; below = omega arith; fails = rw z at q; before = λ j l h. absurd (omega arith) }

pub fine_told : (r : Option ℕ) → all_fine r ≡ true → r ≡ None
fine_told None e = refl
fine_told (Some i) e = clash e refl
