-- The order of texts. Assumes nothing.
use mathlib.Core.Path.{◌≡◌, refl, sym, ◌∙◌, ap}
use mathlib.Core.Bool.{true, false}
use mathlib.Core.List.{List, [], ◌∷◌}
use mathlib.Core.Logic.{◌⊎◌, inl, inr}
use Prim.Native.Nat.{ℕ, zero, suc, ◌+◌, ◌≤◌, ◌<◌}
use native.Mathlib.Nat.{zero-add}
use native.Mathlib.Numerals.{add-one}
use native.Mathlib.Omega.{arith}
use lib.ListN.{length, get_or, drop, drop_of_length-le}
use lib.Seq.{drop-cons}
use borrow.Author.Tests.{lt-ltb, le-ltb}
use borrow.Author.Rules.{rules}
use Rattle.ground.proofs.Cases.{le_or_lt, clash}
use Rattle.table_index.specs.Inner.Order.{compared, not_after, at_most, Weighing, AlikeTo}
use Rattle.std.specs.declared.cmp.Ordering.TheVariants.{Less, Equal, Greater}

-- one byte each
module _ (x y : ℕ) (s t : List ℕ) where
  compared_less : x < y → compared (x ∷ s) (y ∷ t) ≡ Less
  unfolding compared
  compared_less h = rw (lt-ltb x y h)

  compared_more : y < x → compared (x ∷ s) (y ∷ t) ≡ Greater
  unfolding compared
  compared_more h = rw (le-ltb x y (omega arith), lt-ltb y x h)

  compared_even : y ≤ x → x ≤ y → compared (x ∷ s) (y ∷ t) ≡ compared s t
  unfolding compared
  compared_even h k = rw (le-ltb x y h, le-ltb y x k)

  most_less : x < y → at_most (x ∷ s) (y ∷ t) ≡ true
  most_less h = ap not_after (compared_less h)

  most_more : y < x → at_most (x ∷ s) (y ∷ t) ≡ false
  most_more h = ap not_after (compared_more h)

  most_even : x ≡ y → at_most (x ∷ s) (y ∷ t) ≡ at_most s t
  most_even h = ap not_after (compared_even (omega arith) (omega arith))

-- three ways
pub data Way (x y : ℕ) : Type 0 where
  less : x < y → Way x y
  even : x ≡ y → Way x y
  more : y < x → Way x y

pub way : (x y : ℕ) → Way x y
way x y = go (le_or_lt x y) (le_or_lt y x)
  where
    go : (x ≤ y) ⊎ (y < x) → (y ≤ x) ⊎ (x < y) → Way x y
    go (inr h) o = more h
    go (inl h) (inr k) = less k
    go (inl h) (inl k) = even (omega arith)

-- `at_most` is an order
pub most_refl : (a : List ℕ) → at_most a a ≡ true
unfolding compared
most_refl [] = refl
most_refl (x ∷ s) = most_even x x s s refl ∙ most_refl s

pub most_total : (a b : List ℕ) → at_most a b ≡ false → at_most b a ≡ true
unfolding compared
most_total [] [] e = refl
most_total [] (y ∷ t) e = clash refl e
most_total (x ∷ s) [] e = refl
most_total (x ∷ s) (y ∷ t) e = go (most_total s t) (way x y)
  where
    go : (at_most s t ≡ false → at_most t s ≡ true) → Way x y → at_most (y ∷ t) (x ∷ s) ≡ true
    go again (less h) = clash (most_less x y s t h) e
    go again (even h) = most_even y x t s (sym h) ∙ again (sym (most_even x y s t h) ∙ e)
    go again (more h) = most_less y x t s h

pub most_equal : (a b : List ℕ) → at_most a b ≡ true → at_most b a ≡ true → a ≡ b
unfolding compared
most_equal [] [] e f = refl
most_equal [] (y ∷ t) e f = clash f refl
most_equal (x ∷ s) [] e f = clash e refl
most_equal (x ∷ s) (y ∷ t) e f = go (most_equal s t) (way x y)
  where
    go : (at_most s t ≡ true → at_most t s ≡ true → s ≡ t) → Way x y → x ∷ s ≡ y ∷ t
    go again (less h) = clash f (most_more y x t s h)
    go again (even h) =
        ap (λ z. z ∷ s) h
        ∙ ap (λ l. y ∷ l) (again (sym (most_even x y s t h) ∙ e) (sym (most_even y x t s (sym h)) ∙ f))
    go again (more h) = clash e (most_more x y s t h)

pub most_trans : (a b c : List ℕ) → at_most a b ≡ true → at_most b c ≡ true → at_most a c ≡ true
unfolding compared
most_trans [] b [] e f = refl
most_trans [] b (z ∷ u) e f = refl
most_trans (x ∷ s) [] c e f = clash e refl
most_trans (x ∷ s) (y ∷ t) [] e f = clash f refl
most_trans (x ∷ s) (y ∷ t) (z ∷ u) e f = go (most_trans s t u) (way x y) (way y z)
  where
    go : (at_most s t ≡ true → at_most t u ≡ true → at_most s u ≡ true) → Way x y → Way y z →
        at_most (x ∷ s) (z ∷ u) ≡ true
    go again (more h) w = clash e (most_more x y s t h)
    go again (less h) (more k) = clash f (most_more y z t u k)
    go again (even h) (more k) = clash f (most_more y z t u k)
    go again (less h) (less k) = most_less x z s u (omega arith)
    go again (less h) (even k) = most_less x z s u (omega arith)
    go again (even h) (less k) = most_less x z s u (omega arith)
    go again (even h) (even k) =
        most_even x z s u (h ∙ k) ∙ again (sym (most_even x y s t h) ∙ e) (sym (most_even y z t u k) ∙ f)

-- The loop: what is left of both decides.
pub weighing_starts : (a b : List ℕ) → Weighing a b 0
weighing_starts a b = record { in_first = omega arith; in_second = omega arith; decides = refl }

module _ {a b : List ℕ} {i : ℕ} (k : Weighing a b i) where
  pub weighing_same : length a ≤ i → length b ≤ i → Equal ≡ compared a b
  unfolding compared
  weighing_same h g = rw (drop_of_length-le a h, drop_of_length-le b g) at k.decides

  pub weighing_short : length a ≤ i → i < length b → Less ≡ compared a b
  unfolding compared
  weighing_short h g = rw (drop_of_length-le a h, drop-cons b i 0 g) at k.decides

  module _ (h : i < length a) where
    pub weighing_long : length b ≤ i → Greater ≡ compared a b
    unfolding compared
    weighing_long g = rw (drop-cons a i 0 h, drop_of_length-le b g) at k.decides

    module _ (g : i < length b) where
      here : compared (get_or a i 0 ∷ drop (suc i) a) (get_or b i 0 ∷ drop (suc i) b) ≡ compared a b
      here = rw (drop-cons a i 0 h, drop-cons b i 0 g) at k.decides

      pub weighing_less : get_or a i 0 < get_or b i 0 → Less ≡ compared a b
      weighing_less l = sym (compared_less (get_or a i 0) (get_or b i 0) (drop (suc i) a) (drop (suc i) b) l) ∙ here

      pub weighing_more : get_or b i 0 < get_or a i 0 → Greater ≡ compared a b
      weighing_more l = sym (compared_more (get_or a i 0) (get_or b i 0) (drop (suc i) a) (drop (suc i) b) l) ∙ here

      pub weighing_next : get_or b i 0 ≤ get_or a i 0 → get_or a i 0 ≤ get_or b i 0 → Weighing a b (i + 1)
      weighing_next l m = record {
        in_first = omega arith;
        in_second = omega arith;
        decides = rw add-one
            (sym (compared_even (get_or a i 0) (get_or b i 0) (drop (suc i) a) (drop (suc i) b) l m) ∙ here);
      }

-- texts that are alike up to a place
pub weighing_past : (a b : List ℕ) (i : ℕ) → i ≤ length a → i ≤ length b →
    ((j : ℕ) → j < i → get_or a j 0 ≡ get_or b j 0) → Weighing a b i
weighing_past a b zero h k e = weighing_starts a b
weighing_past a b (suc i) h k e =
    let here : get_or a i 0 ≡ get_or b i 0 = e i (omega arith) in
    rw add-one at
    (weighing_next (weighing_past a b i (omega arith) (omega arith) (λ j l. e j (omega arith))) (omega arith) (omega arith)
    (omega arith) (omega arith))

pub weighing_alike : (a b : List ℕ) {i : ℕ} → AlikeTo a 0 b false i → Weighing a b i
weighing_alike a b {i} x =
    let t = x.in_text in
    weighing_past a b i (omega arith) x.in_name (λ j l. ap (λ n. get_or a n 0) (sym (zero-add j)) ∙ x.each j l)

pub ruleset weighing =
    (weighing_alike, weighing_same, weighing_short, weighing_long, weighing_less, weighing_more, weighing_next, rules)
