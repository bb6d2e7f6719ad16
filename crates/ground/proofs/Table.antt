-- A rule at every number below a bound, or at every entry of a table, by one test that antt computes. Assumes nothing.
use mathlib.Core.Path.{◌≡◌, refl}
use mathlib.Core.Bool.{Bool, true, false}
use Prim.Native.Nat.{ℕ, zero, suc, ◌≤◌, ◌<◌}
use native.Mathlib.Omega.{arith}
use native.Mathlib.Nat.{not-suc-le-zero}
use lib.Dec.{T, leb, eqb, eqb→eq, leb→le}
use borrow.Author.Tests.{eqb-true, eqb-false}
use Rattle.ground.specs.Choice.{pick, both, within}
use Rattle.ground.proofs.Cases.{within_yes}

-- the test holds at every number below n
abbrev pub all : (ℕ → Bool) → ℕ → Bool
all f zero = true
all f (suc n) = both (f n) (all f n)

t_left : (a b : Bool) → T (both a b) → T a
t_left true b t = tt
t_left false b t = t

t_right : (a b : Bool) → T (both a b) → T b
t_right true b t = t
t_right false b t = absurd t

one_more : (f : ℕ → Bool) (n k : ℕ) → T (f n) → (k < n → T (f k)) → k < suc n → T (f k)
one_more f n k t less h = go (eqb k n) refl
  where
    go : (b : Bool) → eqb k n ≡ b → T (f k)
    go true e = rw (eqb-true k n e) t
    go false e = less (let d = eqb-false k n e in omega arith)

pub below : (f : ℕ → Bool) (n : ℕ) → T (all f n) → (k : ℕ) → k < n → T (f k)
below f zero t k h = absurd (not-suc-le-zero h)
below f (suc n) t k h = one_more f n k (t_left (f n) (all f n) t) (below f n (t_right (f n) (all f n) t) k) h

-- the same for numbers from low to high, where the test is asked of these alone
abbrev pub on_range : ℕ → ℕ → (ℕ → Bool) → ℕ → Bool
on_range low high f x = pick (within low high x) (f x) true

module _ (low high n : ℕ) (fits : high < n) where
  pub in_range : (f : ℕ → Bool) → T (all (on_range low high f) n) → (x : ℕ) → low ≤ x → x ≤ high → T (f x)
  in_range f t x l h =
      let here : T (on_range low high f x) = below (on_range low high f) n t x (omega arith) in
      rw (within_yes low high x l h) at here

  pub range_equal : (f g : ℕ → ℕ) → T (all (on_range low high (λ x. eqb (f x) (g x))) n) → (x : ℕ) → low ≤ x → x ≤ high → f x ≡ g x
  range_equal f g t x l h = eqb→eq (f x) (g x) (in_range (λ y. eqb (f y) (g y)) t x l h)

  pub range_le : (f g : ℕ → ℕ) → T (all (on_range low high (λ x. leb (f x) (g x))) n) → (x : ℕ) → low ≤ x → x ≤ high → f x ≤ g x
  range_le f g t x l h = leb→le (f x) (g x) (in_range (λ y. leb (f y) (g y)) t x l h)
