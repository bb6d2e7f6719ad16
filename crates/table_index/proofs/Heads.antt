-- The first row with a mark, and how many rows it stands for. Assumes nothing.
use mathlib.Core.Path.{◌≡◌, refl, sym, ◌∙◌, ap}
use mathlib.Core.Bool.{Bool, true, false}
use mathlib.Core.List.{List}
use mathlib.Core.Logic.{◌⊎◌, inl, inr}
use Prim.Native.Nat.{ℕ, zero, suc, ◌+◌, ◌-◌, ◌≤◌, ◌<◌}
use native.Mathlib.Numerals.{add-one}
use native.Mathlib.Omega.{arith}
use lib.Dec.{eqb}
use lib.ListN.{get_or}
use borrow.Author.Tests.{eq-eqb, ne_eqb, lt-ltb, le-ltb, eqb-true, eqb-false}
use Rattle.ground.specs.Choice.{pick}
use Rattle.ground.proofs.Cases.{le_or_lt}
use Rattle.table_index.specs.Inner.Heads.{or_number, first_with, head_of, count_with, count_below}
use Rattle.table_index.proofs.Comparing.{Way, less, even, more, way}

module _ (ms : List ℕ) where
  pub first_inside : (m k : ℕ) → first_with ms m k ≤ k
  unfolding first_with
  first_inside m zero = omega arith
  first_inside m (suc k) = go (first_with ms m k) (eqb (get_or ms k 0) m) (first_inside m k)
    where
      go : (n : ℕ) (b : Bool) → n ≤ k → or_number n (pick b (suc k) 0) ≤ suc k
      go zero true l = omega arith
      go zero false l = omega arith
      go (suc n) b l = omega arith

  -- one row more: with its mark nothing changes but where there was none
  pub first_here : (m k : ℕ) → get_or ms k 0 ≡ m → first_with ms m (suc k) ≡ or_number (first_with ms m k) (suc k)
  unfolding first_with
  first_here m k e = rw (eq-eqb (get_or ms k 0) m e)

  pub first_other : (m k : ℕ) → (get_or ms k 0 ≡ m → ⊥) → first_with ms m (suc k) ≡ first_with ms m k
  unfolding first_with
  first_other m k n = rw (ne_eqb (get_or ms k 0) m n) (go (first_with ms m k))
    where
      go : (n : ℕ) → or_number n 0 ≡ n
      go zero = refl
      go (suc n) = refl

  first_stays : (m k f : ℕ) → first_with ms m k ≡ suc f → first_with ms m (suc k) ≡ suc f
  unfolding first_with
  first_stays m k f e = rw e

  number_more : (n k : ℕ) → or_number n (suc k) ≡ or_number n (suc k) - 1 + 1
  number_more zero k = omega arith
  number_more (suc n) k = omega arith

  -- the number of a mark says the head of each row with it
  own_number : (r : ℕ) → first_with ms (get_or ms r 0) (suc r) ≡ head_of ms r + 1
  unfolding head_of
  own_number r =
      let e = first_here (get_or ms r 0) r refl in
      e ∙ number_more (first_with ms (get_or ms r 0) r) r ∙ ap (λ n. n - 1 + 1) (sym e)

  pub head_told : (k r : ℕ) → r < k → first_with ms (get_or ms r 0) k ≡ head_of ms r + 1
  head_told zero r h = absurd (omega arith)
  head_told (suc k) r h = go (le_or_lt k r) (head_told k r)
    where
      go : (k ≤ r) ⊎ (r < k) → (r < k → first_with ms (get_or ms r 0) k ≡ head_of ms r + 1) →
          first_with ms (get_or ms r 0) (suc k) ≡ head_of ms r + 1
      go (inl l) again = let z : k ≡ r = omega arith in rw z (own_number r)
      go (inr l) again = rw (add-one) (first_stays (get_or ms r 0) k (head_of ms r) (again l ∙ add-one (head_of ms r)))

  pub head_inside : (r : ℕ) → head_of ms r ≤ r
  head_inside r = let e = own_number r in let i = first_inside (get_or ms r 0) (suc r) in omega arith

  -- a row with a new mark is its own head, and any other has that of its mark
  pub head_new : (r : ℕ) → first_with ms (get_or ms r 0) r ≡ 0 → head_of ms r ≡ r
  head_new r e =
      let o = own_number r in
      let h : first_with ms (get_or ms r 0) (suc r) ≡ suc r = first_here (get_or ms r 0) r refl ∙ ap (λ n. or_number n (suc r)) e in
      omega arith

  pub head_old : (r : ℕ) {n : ℕ} → n ≡ first_with ms (get_or ms r 0) r → (n ≡ 0 → ⊥) → head_of ms r ≡ n - 1
  head_old r {n} e z =
      let o = own_number r in
      let p : first_with ms (get_or ms r 0) r ≡ suc (n - 1) = omega arith in
      let h = first_stays (get_or ms r 0) r (n - 1) p in
      omega arith

  -- how many rows have a head
  pub count_here : (f k : ℕ) → head_of ms k ≡ f → count_with ms f (suc k) ≡ suc (count_with ms f k)
  unfolding count_with
  count_here f k e = rw (eq-eqb (head_of ms k) f e)

  pub count_other : (f k : ℕ) → (head_of ms k ≡ f → ⊥) → count_with ms f (suc k) ≡ count_with ms f k
  unfolding count_with
  count_other f k n = rw (ne_eqb (head_of ms k) f n)

  count_step : (f k : ℕ) → (count_with ms f k ≤ count_with ms f (suc k)) × (count_with ms f (suc k) ≤ suc (count_with ms f k))
  count_step f k = go (eqb (head_of ms k) f) refl
    where
      go : (b : Bool) → eqb (head_of ms k) f ≡ b →
          (count_with ms f k ≤ count_with ms f (suc k)) × (count_with ms f (suc k) ≤ suc (count_with ms f k))
      go true e = let s = count_here f k (eqb-true (head_of ms k) f e) in (omega arith, omega arith)
      go false e = let s = count_other f k (eqb-false (head_of ms k) f e) in (omega arith, omega arith)

  none_counted : (f : ℕ) → ◌≡◌ {A = ℕ} (count_with ms f 0) 0
  unfolding count_with
  none_counted f = refl

  pub count_zero : (f : ℕ) → ◌≡◌ {A = ℕ} 0 (count_with ms f 0)
  count_zero f = sym (none_counted f)

  pub count_inside : (f k : ℕ) → count_with ms f k ≤ k
  count_inside f zero = let z = none_counted f in omega arith
  count_inside f (suc k) = let i = count_inside f k in let s = (count_step f k).1 in omega arith

  pub count_rises : (f k n : ℕ) → k ≤ n → count_with ms f k ≤ count_with ms f n
  count_rises f k zero h = let z : k ≡ 0 = omega arith in rw z (omega arith)
  count_rises f k (suc n) h = go (le_or_lt k n) (count_rises f k n)
    where
      go : (k ≤ n) ⊎ (n < k) → (k ≤ n → count_with ms f k ≤ count_with ms f n) → count_with ms f k ≤ count_with ms f (suc n)
      go (inl l) again = let i = again l in let s = (count_step f n).0 in omega arith
      go (inr l) again = let z : k ≡ suc n = omega arith in rw z (omega arith)

  -- where a row is still to come, there is room for it
  pub count_room : (f k n : ℕ) → k < n → head_of ms k ≡ f → count_with ms f k < count_with ms f n
  count_room f k n h e = let s = count_here f k e in let r = count_rises f (suc k) n (omega arith) in omega arith

  below_less : (f k : ℕ) → head_of ms k < f → count_below ms f (suc k) ≡ suc (count_below ms f k)
  unfolding count_below
  below_less f k h = rw (lt-ltb (head_of ms k) f h)

  below_not : (f k : ℕ) → f ≤ head_of ms k → count_below ms f (suc k) ≡ count_below ms f k
  unfolding count_below
  below_not f k h = rw (le-ltb (head_of ms k) f h)

  pub below_zero : (k : ℕ) → ◌≡◌ {A = ℕ} 0 (count_below ms 0 k)
  unfolding count_below
  below_zero zero = refl
  below_zero (suc k) = below_zero k ∙ sym (below_not 0 k (omega arith))

  -- one head more
  pub below_next : (f k : ℕ) → count_below ms (f + 1) k ≡ count_below ms f k + count_with ms f k
  unfolding count_below count_with
  below_next f zero = refl
  below_next f (suc k) = go (way (head_of ms k) f) (below_next f k)
    where
      go : Way (head_of ms k) f → count_below ms (f + 1) k ≡ count_below ms f k + count_with ms f k →
          count_below ms (f + 1) (suc k) ≡ count_below ms f (suc k) + count_with ms f (suc k)
      go (less h) again =
          let a = below_less (f + 1) k (omega arith) in
          let b = below_less f k h in
          let c = count_other f k (λ e. omega arith) in
          omega arith
      go (even h) again =
          let a = below_less (f + 1) k (omega arith) in
          let b = below_not f k (omega arith) in
          let c = count_here f k h in
          omega arith
      go (more h) again =
          let a = below_not (f + 1) k (omega arith) in
          let b = below_not f k (omega arith) in
          let c = count_other f k (λ e. omega arith) in
          omega arith

  pub below_inside : (f k : ℕ) → count_below ms f k ≤ k
  unfolding count_below
  below_inside f zero = omega arith
  below_inside f (suc k) = go (le_or_lt f (head_of ms k)) (below_inside f k)
    where
      go : (f ≤ head_of ms k) ⊎ (head_of ms k < f) → count_below ms f k ≤ k → count_below ms f (suc k) ≤ suc k
      go (inl h) i = let s = below_not f k h in omega arith
      go (inr h) i = let s = below_less f k h in omega arith

  pub below_rises : (f g k : ℕ) → f ≤ g → count_below ms f k ≤ count_below ms g k
  below_rises f zero k h = let z : f ≡ 0 = omega arith in rw z (omega arith)
  below_rises f (suc g) k h = go (le_or_lt f g) (below_rises f g k)
    where
      go : (f ≤ g) ⊎ (g < f) → (f ≤ g → count_below ms f k ≤ count_below ms g k) → count_below ms f k ≤ count_below ms (suc g) k
      go (inl l) again = let i = again l in let s = rw add-one at (below_next g k) in omega arith
      go (inr l) again = let z : f ≡ suc g = omega arith in rw z (omega arith)

  -- the shelf of a head ends where the next one starts, or before
  pub shelf_inside : (f k : ℕ) → count_below ms f k + count_with ms f k ≤ k
  shelf_inside f k = let s = below_next f k in let i = below_inside (f + 1) k in omega arith

  pub shelf_before : (f g k : ℕ) → f < g → count_below ms f k + count_with ms f k ≤ count_below ms g k
  shelf_before f g k h = let s = below_next f k in let r = below_rises (f + 1) g k (omega arith) in omega arith
