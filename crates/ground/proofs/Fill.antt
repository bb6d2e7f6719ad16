-- Filling a list with one element, at any type (the kit's own law is for numbers). Assumes nothing.
use mathlib.Core.Path.{◌≡◌, refl}
use mathlib.Core.List.{List, [], ◌∷◌, ◌++◌, append-nil}
use Prim.Native.Nat.{ℕ, zero, suc, ◌+◌, ◌≤◌, ◌<◌}
use native.Mathlib.Numerals.{add-one}
use native.Mathlib.Nat.{le_of_suc-le-suc, not-suc-le-zero}
use lib.ListN.{length, get_or, drop, set, replicate, drop_of_length-le}

module _ {A : Type 0} (z : A) where
  pub fill_none : (d : List A) → d ≡ replicate 0 z ++ drop 0 d
  fill_none d = refl

  fill_suc : (n : ℕ) (d : List A) → n < length d → set (replicate n z ++ drop n d) n z ≡ replicate (suc n) z ++ drop (suc n) d
  fill_suc n [] h = absurd (not-suc-le-zero h)
  fill_suc zero (x ∷ d) h = refl
  fill_suc (suc n) (x ∷ d) h = rw (fill_suc n d (le_of_suc-le-suc h))

  pub fill_more : (n : ℕ) (d : List A) → n < length d → set (replicate n z ++ drop n d) n z ≡ replicate (n + 1) z ++ drop (n + 1) d
  fill_more n d h = rw add-one (fill_suc n d h)

  pub fill_done : (n : ℕ) (d : List A) → length d ≤ n → replicate n z ++ drop n d ≡ replicate n z
  fill_done n d h = rw (drop_of_length-le d h, append-nil)

-- each of them, and what is read behind them
pub zero_at : (n i : ℕ) → ◌≡◌ {A = ℕ} (get_or (replicate n 0) i 0) 0
zero_at zero i = refl
zero_at (suc n) zero = refl
zero_at (suc n) (suc i) = zero_at n i
