-- The decimal digits of a number read as that number, by document 01's own rule of numbers. Assumes nothing.
use Rattle.std.specs.Prelude.{Some, None}
use mathlib.Core.Path.{◌≡◌, refl, sym, ◌∙◌, ap}
use mathlib.Core.Bool.{Bool, true, false}
use mathlib.Core.List.{List, [], ◌∷◌, ◌++◌, append_assoc, append-nil}
use mathlib.Core.Logic.{◌⊎◌, inl, inr}
use Prim.Native.Nat.{ℕ, zero, suc, ◌+◌, ◌-◌, ◌*◌, ◌/◌, ◌%◌, ◌^◌, ◌≤◌, ◌<◌}
use native.Mathlib.Nat.{pow-suc, div-lt_iff_lt-mul}
use native.Mathlib.Omega.{arith}
use lib.Dec.{eqb}
use lib.ListN.{length, length-append}
use borrow.Author.Tests.{le-leb, eqb-true}
use Rattle.ground.specs.Choice.{pick}
use Rattle.ground.proofs.Cases.{le_or_lt}
use Rattle.number.specs.Numbers as number
use Rattle.load_report.specs.Digits.{decimal_from, decimal}
use Rattle.load_report.proofs.Spelling.{one_digit, more_digits}

-- one digit more
digit_read : (v d : ℕ) (t : List ℕ) → d ≤ 9 → number.digits_from v ((48 + d) ∷ t) ≡ number.digits_from (v * 10 + d) t
unfolding number.digits_from
digit_read v d t h =
    let same : 48 + d - 48 ≡ d = omega arith in
    rw (le-leb 48 (48 + d) (omega arith), le-leb (48 + d) 57 (omega arith), same)

digits_read : (k n : ℕ) (t : List ℕ) → n < 10 ^ k → number.digits_from 0 (decimal_from k n ++ t) ≡ number.digits_from n t
unfolding decimal_from
digits_read zero n t h = let none : n ≡ 0 = omega arith in rw none
digits_read (suc k) n t h =
    let less : n < 10 ^ k * 10 = rw (pow-suc 10 k) at h in
    let ten : 0 < 10 = omega arith in
    let small : n / 10 < 10 ^ k = (div-lt_iff_lt-mul ten).1 less in
    go (le_or_lt n 9) (digits_read k (n / 10) ((48 + n % 10) ∷ t) small)
  where
    go : (n ≤ 9) ⊎ (9 < n) → number.digits_from 0 (decimal_from k (n / 10) ++ ((48 + n % 10) ∷ t)) ≡ number.digits_from (n / 10) ((48 + n % 10) ∷ t) → number.digits_from 0 (decimal_from (suc k) n ++ t) ≡ number.digits_from n t
    go (inl l) again =
        let value : 0 * 10 + n % 10 ≡ n = omega arith in
        ap (λ s. number.digits_from 0 (s ++ t)) (one_digit k n l) ∙ digit_read 0 (n % 10) t (omega arith) ∙ ap (λ x. number.digits_from x t) value
    go (inr l) again =
        let value : n / 10 * 10 + n % 10 ≡ n = omega arith in
        ap (λ s. number.digits_from 0 (s ++ t)) (more_digits k n l) ∙ ap (number.digits_from 0) (append_assoc (decimal_from k (n / 10)) ((48 + n % 10) ∷ []) t)
        ∙ again ∙ digit_read (n / 10) (n % 10) t (omega arith) ∙ ap (λ x. number.digits_from x t) value

-- what reads as digits has no sign in front
no_sign : (x : ℕ) (s : List ℕ) → x ≡ 0x2B → number.digits_from 0 (x ∷ s) ≡ None
unfolding number.digits_from
no_sign x s e = rw e

numbered : (s : List ℕ) (n : ℕ) → 0 < length s → number.digits_from 0 s ≡ Some n → number.number_of s ≡ Some n
unfolding number.number_of number.plain
numbered [] n l e = absurd (omega arith)
numbered (x ∷ s) n l e = go (eqb x 0x2B) refl
  where
    go : (b : Bool) → eqb x 0x2B ≡ b → pick b (number.plain s) (number.digits_from 0 (x ∷ s)) ≡ Some n
    go true f = absurd (let u : None ≡ Some n = sym (no_sign x s (eqb-true x 0x2B f)) ∙ e in let z : ◌≡◌ {A = ℕ} 0 1 = cc in omega arith)
    go false f = e

some_digit : (k n : ℕ) → 0 < length (decimal_from (suc k) n)
some_digit k n = go (le_or_lt n 9)
  where
    go : (n ≤ 9) ⊎ (9 < n) → 0 < length (decimal_from (suc k) n)
    go (inl l) = let e = ap length (one_digit k n l) in omega arith
    go (inr l) = let e = ap length (more_digits k n l) in let m = length-append (decimal_from k (n / 10)) ((48 + n % 10) ∷ []) in omega arith

-- a count that is printed can be read again
pub decimal_read : (n : ℕ) → n ≤ 4294967295 → number.number_of (decimal n) ≡ Some n
unfolding number.digits_from
decimal_read n h =
    let whole : number.digits_from 0 (decimal n) ≡ number.digits_from n [] = ap (number.digits_from 0) (sym (append-nil (decimal n))) ∙ digits_read 10 n [] (omega arith) in
    let value : number.digits_from n [] ≡ Some n = rw (le-leb n 4294967295 h) in
    numbered (decimal n) n (some_digit 9 n) (whole ∙ value)
