-- Blocks of 16 bytes, of which a test is asked: one byte after the other, and by a mask. Assumes nothing.
use mathlib.Core.Path.{◌≡◌, refl, sym, ap, ap₂, ◌∙◌}
use mathlib.Core.Bool.{Bool, true, false}
use mathlib.Core.List.{List}
use mathlib.Core.Logic.{◌⊎◌, inl, inr}
use Prim.Native.Nat.{ℕ, zero, suc, ◌+◌, ◌*◌, ◌/◌, ◌%◌, ◌^◌, ◌≤◌, ◌<◌}
use native.Mathlib.Nat.{add-zero, pow-suc, mul_assoc, mul_comm}
use native.Mathlib.Omega.{arith}
use mir.Val.{Fits}
use mir.Syntax.{w16, w64}
use lib.Dec.{lit<}
use lib.Count.{count_trailing_zeros, trailing_le, under}
use lib.Pow.{high, low}
use lib.ListN.{get_or}
use borrow.Author.Rules.{rules}
use Rattle.ground.specs.Choice.{pick, bit}
use Rattle.ground.proofs.Cases.{le_or_lt, clash}
use Rattle.text_places.specs.Inner.Blocks.{mask_of}

-- what was passed of a block: where nothing was marked, the test holds of none of it
pub record Passed (p : ℕ → Bool) (s : List ℕ) (at : ℕ) (holds : Bool) (i : ℕ) : Type 0 where
  pub few : i ≤ 16
  pub none : holds ≡ false → (k : ℕ) → k < i → p (get_or s (at + k) 0) ≡ false

pub passed_none : (p : ℕ → Bool) (s : List ℕ) (at : ℕ) → Passed p s at false 0
passed_none p s at = record { few = omega arith; none = λ f k h. absurd (omega arith) }

module _ {p : ℕ → Bool} {s : List ℕ} {at i : ℕ} {holds : Bool} (w : Passed p s at holds i) where
  pub passed_more : i < 16 → {r : Bool} → r ≡ pick (p (get_or s (at + i) 0)) true holds → Passed p s at r (i + 1)
  passed_more h {r} e = record { few = omega arith; none = λ f k l. go (p (get_or s (at + i) 0)) refl (sym e ∙ f) k l (le_or_lt i k) }
    where
      go : (t : Bool) → p (get_or s (at + i) 0) ≡ t → pick t true holds ≡ false → (k : ℕ) → k < i + 1 → (i ≤ k) ⊎ (k < i) → p (get_or s (at + k) 0) ≡ false
      go true q f k l o = clash refl f
      go false q f k l (inl g) = let j : k ≡ i = omega arith in rw j q
      go false q f k l (inr g) = w.none f k g

  pub passed_all : 16 ≤ i → holds ≡ false → (k : ℕ) → k < 16 → p (get_or s (at + k) 0) ≡ false
  passed_all h f k l = w.none f k (omega arith)

-- The mask of a block: a number with one more digit below it.
bit_below : (m : ℕ) (t : Bool) → ((m * 2 + bit t) % 2 ≡ bit t) × ((m * 2 + bit t) / 2 ≡ m)
bit_below m true = (low m 1 {lo = 1} (lit< tt), high m 1 {lo = 1} (lit< tt))
bit_below m false = (low m 1 {lo = 0} (lit< tt), high m 1 {lo = 0} (lit< tt))

zeros_below : (d m : ℕ) (t : Bool) → count_trailing_zeros (suc d) (m * 2 + bit t) ≡ under (bit t) (count_trailing_zeros d m)
unfolding count_trailing_zeros
zeros_below d m t = ap₂ (λ (x y : ℕ). under x (count_trailing_zeros d y)) (bit_below m t).0 (bit_below m t).1

-- of two digits
bit_small : (t : Bool) → bit t ≤ 1
bit_small true = omega arith
bit_small false = omega arith

pub two_high : {h : ℕ} (t : Bool) → h ≡ bit t → Fits w16 (2 * h)
two_high t e = let z = bit_small t in omega arith

pub two_fits : {l h : ℕ} (t u : Bool) → l ≡ bit t → h ≡ bit u → Fits w16 (l + 2 * h)
two_fits t u e f = let y = bit_small t in let z = bit_small u in omega arith

module _ (p : ℕ → Bool) (s : List ℕ) where
  -- it is made of two parts
  join : (n m at : ℕ) → mask_of p s at (n + m) ≡ mask_of p s at n + 2 ^ n * mask_of p s (at + n) m
  unfolding mask_of
  join zero m at = let z : 0 + m ≡ m = omega arith in rw (z, add-zero at) (omega arith)
  join (suc n) m at =
      let z : suc n + m ≡ suc (n + m) = omega arith in
      let e : at + suc n ≡ at + 1 + n = omega arith in
      let swapped : 2 ^ n * 2 * mask_of p s (at + 1 + n) m ≡ 2 ^ n * mask_of p s (at + 1 + n) m * 2 =
      mul_assoc (2 ^ n) 2 (mask_of p s (at + 1 + n) m) ∙ ap (λ x. 2 ^ n * x) (mul_comm 2 (mask_of p s (at + 1 + n) m))
      ∙ sym (mul_assoc (2 ^ n) (mask_of p s (at + 1 + n) m) 2) in
      rw (z, e, pow-suc 2 n, swapped) (omega (arith, join n m (at + 1)))

  mask_small : (at n : ℕ) → mask_of p s at n < 2 ^ n
  unfolding mask_of
  mask_small at zero = lit< tt
  mask_small at (suc n) = rw (pow-suc 2 n) (go (p (get_or s at 0)) (mask_small (at + 1) n))
    where
      go : (t : Bool) → mask_of p s (at + 1) n < 2 ^ n → mask_of p s (at + 1) n * 2 + bit t < 2 ^ n * 2
      go true z = omega arith
      go false z = omega arith

  -- of as many bytes as it has zeros at its end the test does not hold
  mask_zeros : (n d at k : ℕ) → k < count_trailing_zeros d (mask_of p s at n) → k < n → p (get_or s (at + k) 0) ≡ false
  unfolding mask_of
  mask_zeros zero d at k l u = absurd (omega arith)
  mask_zeros (suc n) zero at k l u = absurd (let z = trailing_le 0 (mask_of p s (at + 1) n * 2 + bit (p (get_or s at 0))) in omega arith)
  mask_zeros (suc n) (suc d) at k l u =
      past k (p (get_or s at 0)) refl (rw (zeros_below d (mask_of p s (at + 1) n) (p (get_or s at 0))) at l) u (λ j. mask_zeros n d (at + 1) j)
    where
      past : (k : ℕ) (t : Bool) → p (get_or s at 0) ≡ t → k < under (bit t) (count_trailing_zeros d (mask_of p s (at + 1) n)) → k < suc n →
          ((j : ℕ) → j < count_trailing_zeros d (mask_of p s (at + 1) n) → j < n → p (get_or s (at + 1 + j) 0) ≡ false) → p (get_or s (at + k) 0) ≡ false
      past k true q l u m = absurd (omega arith)
      past zero false q l u m = rw (add-zero at) q
      past (suc k) false q l u m = let w : at + suc k ≡ at + 1 + k = omega arith in rw w (m k (omega arith) (omega arith))

  module _ (at : ℕ) {l h : ℕ} where
    pub two_joined : l ≡ bit (p (get_or s at 0)) → h ≡ bit (p (get_or s (at + 1) 0)) → l + 2 * h ≡ mask_of p s at 2
    unfolding mask_of
    two_joined e f = rw (e, f) (omega arith)

    -- of halves of so many bytes each
    module _ (n : ℕ) (e : l ≡ mask_of p s at n) (f : h ≡ mask_of p s (at + n) n) where
      halves : l + 2 ^ n * h ≡ mask_of p s at (n + n)
      halves = rw (e, f) (sym (join n n at))

      halves_small : l + 2 ^ n * h < 2 ^ (n + n)
      halves_small = rw halves (mask_small at (n + n))

    module _ (e : l ≡ mask_of p s at 2) (f : h ≡ mask_of p s (at + 2) 2) where
      pub four_joined : l + 4 * h ≡ mask_of p s at 4
      four_joined = halves 2 e f

      pub four_high : Fits w16 (4 * h)
      four_high = let z = halves_small 2 e f in omega arith

      pub four_fits : Fits w16 (l + 4 * h)
      four_fits = let z = halves_small 2 e f in omega arith

    module _ (e : l ≡ mask_of p s at 4) (f : h ≡ mask_of p s (at + 4) 4) where
      pub eight_joined : l + 16 * h ≡ mask_of p s at 8
      eight_joined = halves 4 e f

      pub eight_high : Fits w16 (16 * h)
      eight_high = let z = halves_small 4 e f in omega arith

      pub eight_fits : Fits w16 (l + 16 * h)
      eight_fits = let z = halves_small 4 e f in omega arith

    module _ (e : l ≡ mask_of p s at 8) (f : h ≡ mask_of p s (at + 8) 8) where
      pub whole_high : Fits w16 (256 * h)
      whole_high = let z = halves_small 8 e f in omega arith

      pub whole_fits : Fits w16 (l + 256 * h)
      whole_fits = let z = halves_small 8 e f in omega arith

      pub whole_zeros : (k : ℕ) → k < count_trailing_zeros 16 (l + 256 * h) → p (get_or s (at + k) 0) ≡ false
      whole_zeros k u = mask_zeros 16 16 at k (rw (halves 8 e f) at u) (omega (arith, trailing_le 16 (l + 256 * h)))

pub zeros_fit : (mask : ℕ) → Fits w64 (count_trailing_zeros 16 mask)
zeros_fit mask = record { fits = omega (arith, trailing_le 16 mask) }

pub ruleset masking =
    (two_joined, two_high, two_fits, four_joined, four_high, four_fits, eight_joined, eight_high, eight_fits, whole_high, whole_fits, zeros_fit, trailing_le, rules)
