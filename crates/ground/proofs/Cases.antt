-- Tests of a rule, decided by the branch of the code that led there. Assumes nothing.
use mathlib.Core.Path.{◌≡◌, refl}
use mathlib.Core.Bool.{Bool, true, false}
use mathlib.Core.Logic.{◌⊎◌, inl, inr}
use Prim.Native.Nat.{ℕ, ◌≤◌, ◌<◌}
use native.Mathlib.Omega.{arith}
use lib.Dec.{leb, eqb}
use borrow.Author.Tests.{lt-ltb, le-ltb, le-leb, lt-leb, eq-eqb, ne_eqb, leb-true, leb-false, eqb-true, eqb-false}
use Rattle.ground.specs.Choice.{both, either, within, bit, pick}

-- for code without a loop: each test of the rule is rewritten by the branch that was taken
pub ruleset cases = (lt-ltb, le-ltb, le-leb, lt-leb, eq-eqb, ne_eqb, arith)

module _ (low high x : ℕ) where
  pub within_yes : low ≤ x → x ≤ high → within low high x ≡ true
  within_yes l h = rw (le-leb low x l, le-leb x high h)

  pub within_low : x < low → within low high x ≡ false
  within_low l = rw (lt-leb low x l)

  pub within_high : high < x → within low high x ≡ false
  within_high h = go (leb low x)
    where
      go : (b : Bool) → both b (leb x high) ≡ false
      go true = lt-leb x high h
      go false = refl

  pub within_both : within low high x ≡ true → (low ≤ x) × (x ≤ high)
  within_both = go (leb low x) (leb x high) refl refl
    where
      go : (a b : Bool) → leb low x ≡ a → leb x high ≡ b → both a b ≡ true → (low ≤ x) × (x ≤ high)
      go true true p q e = (leb-true low x p, leb-true x high q)
      go true false p q e = absurd (let z : ◌≡◌ {A = ℕ} 0 1 = cc in omega arith)
      go false b p q e = absurd (let z : ◌≡◌ {A = ℕ} 0 1 = cc in omega arith)

-- a range of one
pub within_one : (a x : ℕ) → within a a x ≡ eqb x a
within_one a x = go (eqb x a) refl (within a a x) refl
  where
    go : (b : Bool) → eqb x a ≡ b → (w : Bool) → within a a x ≡ w → w ≡ b
    go true e true f = refl
    go true e false f = absurd (let q = eqb-true x a e in let y = within_yes a a x (omega arith) (omega arith) in let z : ◌≡◌ {A = ℕ} 0 1 = cc in omega arith)
    go false e true f = absurd (eqb-false x a e (let w = within_both a a x f in omega arith))
    go false e false f = refl

pub both_left : (a b : Bool) → both a b ≡ true → a ≡ true
both_left true b e = refl
both_left false b e = e

pub both_right : (a b : Bool) → both a b ≡ true → b ≡ true
both_right true b e = e
both_right false b e = absurd (let z : ◌≡◌ {A = ℕ} 0 1 = cc in omega arith)

pub both_false : (a : Bool) → both a false ≡ false
both_false true = refl
both_false false = refl

pub both_more : (a b m : Bool) → both a m ≡ false → both (both a b) m ≡ false
both_more true true m e = e
both_more true false m e = refl
both_more false b m e = refl

pub either_left : (a b : Bool) → either a b ≡ false → a ≡ false
either_left true b e = e
either_left false b e = refl

pub either_right : (a b : Bool) → either a b ≡ false → b ≡ false
either_right true b e = absurd (let z : ◌≡◌ {A = ℕ} 0 1 = cc in omega arith)
either_right false b e = e

-- a test that holds and does not
pub clash {ℓ} : {A : Type ℓ} {b : Bool} → b ≡ true → b ≡ false → A
clash p q = absurd (let z : ◌≡◌ {A = ℕ} 0 1 = cc in omega arith)

-- one of two orders
pub le_or_lt : (m n : ℕ) → (m ≤ n) ⊎ (n < m)
le_or_lt m n = go (leb m n) refl
  where
    go : (b : Bool) → leb m n ≡ b → (m ≤ n) ⊎ (n < m)
    go true e = inl (leb-true m n e)
    go false e = inr (leb-false m n e)

pub above_zero : (n : ℕ) → (n ≡ 0 → ⊥) → 0 < n
above_zero n h = go (le_or_lt n 0)
  where
    go : (n ≤ 0) ⊎ (0 < n) → 0 < n
    go (inl l) = absurd (h (omega arith))
    go (inr l) = l

-- nothing, whatever the test says
pub none_either : (b : Bool) → ◌≡◌ {A = ℕ} (pick b 0 0) 0
none_either true = refl
none_either false = refl

-- the number of a test is that of its rule
pub bit_told : {b x : Bool} {n : ℕ} → b ≡ x → n ≡ bit b → n ≡ bit x
bit_told e f = rw (← e) f
