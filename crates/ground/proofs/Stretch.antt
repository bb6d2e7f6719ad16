-- Stretches that grow by a byte, or by a block of 16. Assumes nothing.
use mathlib.Core.Path.{◌≡◌}
use mathlib.Core.Bool.{Bool}
use mathlib.Core.List.{List}
use mathlib.Core.Logic.{◌⊎◌, inl, inr}
use Prim.Native.Nat.{ℕ, ◌+◌, ◌-◌, ◌≤◌, ◌<◌}
use native.Mathlib.Omega.{arith}
use lib.ListN.{length, get_or}
use Rattle.ground.specs.Inner.Along.{Along}
use Rattle.ground.proofs.Cases.{le_or_lt}

pub along_none : (P : ℕ → Type 0) (s : List ℕ) («from» : ℕ) → «from» ≤ length s → Along P s «from» «from»
along_none P s f h = record { goes = omega arith; inside = h; each = λ i l u. absurd (omega arith) }

module _ {P : ℕ → Type 0} {s : List ℕ} {«from» to : ℕ} (w : Along P s «from» to) where
  pub along_more : (n : ℕ) → to + n ≤ length s → ((k : ℕ) → k < n → P (get_or s (to + k) 0)) → Along P s «from» (to + n)
  along_more n h f = record { goes = omega (arith, w.goes); inside = h; each = λ i l u. go i l u (le_or_lt to i) }
    where
      go : (i : ℕ) → «from» ≤ i → i < to + n → (to ≤ i) ⊎ (i < to) → P (get_or s i 0)
      go i l u (inl g) = let q : to + (i - to) ≡ i = omega arith in rw q at (f (i - to) (omega arith))
      go i l u (inr g) = w.each i l g

  pub along_byte : to < length s → P (get_or s to 0) → Along P s «from» (to + 1)
  along_byte h b = along_more 1 (omega arith) (λ k l. let z : to + k ≡ to = omega arith in rw z b)

  pub block_inside : 16 ≤ length s - to → to + 16 ≤ length s
  block_inside h = omega (arith, w.inside)

  pub along_block : 16 ≤ length s - to → ((k : ℕ) → k < 16 → P (get_or s (to + k) 0)) → Along P s «from» (to + 16)
  along_block h f = along_more 16 (block_inside h) f

  -- as the code's own test tells it
  pub along_told : 16 ≤ length s - to → {r v : Bool} → (r ≡ v → (k : ℕ) → k < 16 → P (get_or s (to + k) 0)) → r ≡ v → Along P s «from» (to + 16)
  along_told h n f = along_block h (n f)

  pub along_in_block : 16 ≤ length s - to → (r : ℕ) → r ≤ 16 → ((k : ℕ) → k < r → P (get_or s (to + k) 0)) → Along P s «from» (to + r)
  along_in_block h r l n = along_more r (omega (arith, w.inside)) n
