-- Decimal digits, from the last to the first. Assumes nothing.
use Rattle.std.specs.Prelude.{Result}
use mathlib.Core.Path.{◌≡◌, sym, ◌∙◌, ap}
use mathlib.Core.List.{List, [], ◌∷◌, ◌++◌, append_assoc, append-nil}
use Prim.Native.Nat.{ℕ, zero, suc, ◌+◌, ◌-◌, ◌*◌, ◌/◌, ◌%◌, ◌^◌, ◌≤◌, ◌<◌}
use native.Mathlib.Nat.{pow-suc, div-lt_iff_lt-mul}
use native.Mathlib.Omega.{arith}
use lib.ListN.{length, set, take, drop, replicate, length-set, length-replicate}
use lib.Seq.{set_split, drop_at, length-take-le}
use mir.Val.{Fits}
use mir.Syntax.{w32}
use borrow.Author.Tests.{le-leb, lt-leb}
use borrow.Author.Rules.{rules}
use Rattle.ground.specs.Put.{between}
use Rattle.ground.proofs.Parts.{take_rest}
use Rattle.table_pool.specs.Inner.Wrote.{WroteBy}
use Rattle.table_pool.proofs.Writes.{wrote_as}
use Rattle.load_report.specs.Digits.{decimal_from, decimal}
use Rattle.table_pool.specs.declared.write.NoRoom.{NoRoom}

pub one_digit : (k n : ℕ) → n ≤ 9 → decimal_from (suc k) n ≡ (48 + n % 10) ∷ []
unfolding decimal_from
one_digit k n h = rw (le-leb n 9 h)

pub more_digits : (k n : ℕ) → 9 < n → decimal_from (suc k) n ≡ decimal_from k (n / 10) ++ ((48 + n % 10) ∷ [])
unfolding decimal_from
more_digits k n h = rw (lt-leb n 9 h)

drop_set : (l : List ℕ) (i x : ℕ) → i < length l → drop i (set l i x) ≡ x ∷ drop (suc i) l
drop_set l i x h = ap (drop i) (set_split l i x h) ∙ drop_at (take i l) (x ∷ drop (suc i) l) i (length-take-le i l (omega arith))

-- the digits of `n` behind the place `first` are written, and those of `rest` are left
pub record Spelling (n : ℕ) (d : List ℕ) (first rest : ℕ) : Type 0 where
  pub size : length d ≡ 10
  pub inside : first < 10
  pub small : rest < 10 ^ suc first
  pub is : decimal_from (suc first) rest ++ drop (suc first) d ≡ decimal n

pub spelling_starts : (n : ℕ) → Fits w32 n → Spelling n (replicate 10 0) 9 n
spelling_starts n h = record {
  size = length-replicate {A = ℕ} 10 0;
  inside = omega arith;
  small = omega arith;
  is = append-nil (decimal n);
}

module _ {n : ℕ} {d : List ℕ} {first rest : ℕ} (s : Spelling n d first rest) where
  pub spelling_inside : first < length d
  spelling_inside = let a = s.size in let b = s.inside in omega arith

  module _ (h : 9 < rest) where
    -- a number of more than one digit does not start at the first place
    pub spelling_first : 1 ≤ first
    spelling_first = go first s.small
      where
        go : (k : ℕ) → rest < 10 ^ suc k → 1 ≤ k
        go zero l = absurd (omega arith)
        go (suc k) l = omega arith

    pub spelling_more : Spelling n (set d first (48 + rest % 10)) (first - 1) (rest / 10)
    spelling_more =
        let a = s.inside in
        let b = spelling_first in
        let c : suc (first - 1) ≡ first = omega arith in
        let less : rest < 10 ^ first * 10 = rw (pow-suc 10 first) at s.small in
        let ten : 0 < 10 = omega arith in
        let small : rest / 10 < 10 ^ first = (div-lt_iff_lt-mul ten).1 less in
        record {
          size = length-set d first (48 + rest % 10) ∙ s.size;
          inside = omega arith;
          small = rw c small;
          is =
              rw (c, drop_set d first (48 + rest % 10) spelling_inside)
              (sym (append_assoc (decimal_from first (rest / 10)) ((48 + rest % 10) ∷ []) (drop (suc first) d))
              ∙ ap (λ l. l ++ drop (suc first) d) (sym (more_digits first rest h)) ∙ s.is);
        }

    pub spelling_falls : rest / 10 < rest
    spelling_falls = omega arith

  -- the array still has ten places
  pub spelling_end : (x : ℕ) → 10 ≤ length (set d first x)
  spelling_end x = let a = length-set d first x in let b = s.size in omega arith

  module _ (h : rest ≤ 9) where
    whole : between (set d first (48 + rest % 10)) first 10 ≡ decimal n
    whole =
        let long : 10 ≡ length (set d first (48 + rest % 10)) = sym (length-set d first (48 + rest % 10) ∙ s.size) in
        ap (λ k. between (set d first (48 + rest % 10)) first k) long
        ∙ take_rest (set d first (48 + rest % 10)) first ∙ drop_set d first (48 + rest % 10) spelling_inside
        ∙ ap (λ l. l ++ drop (suc first) d) (sym (one_digit first rest h)) ∙ s.is

    pub spelling_ends : (r : Result ℕ NoRoom) (out : List ℕ) (at : ℕ) (out₁ : List ℕ) →
        WroteBy r out at (between (set d first (48 + rest % 10)) first 10) out₁ → WroteBy r out at (decimal n) out₁
    spelling_ends r out at out₁ w = wrote_as r out at out₁ whole w

pub ruleset spelling = (spelling_starts, spelling_inside, spelling_first, spelling_more, spelling_falls, spelling_end, spelling_ends, rules)
