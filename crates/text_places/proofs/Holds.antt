-- What was looked for stands at the place that was found, and inside the text. Assumes nothing.
use Rattle.std.specs.Prelude.{Option, Some, None}
use mathlib.Core.Path.{◌≡◌, refl, sym, ◌∙◌, ap}
use mathlib.Core.Bool.{Bool, true, false}
use mathlib.Core.List.{List, [], ◌∷◌}
use mathlib.Core.Logic.{◌⊎◌, inl, inr}
use Prim.Native.Nat.{ℕ, suc, ◌+◌, ◌-◌, ◌≤◌, ◌<◌}
use native.Mathlib.Nat.{add-zero}
use native.Mathlib.Omega.{arith}
use lib.Dec.{eqb}
use lib.ListN.{length, get_or, drop, length-drop}
use lib.Seq.{get_or-drop}
use borrow.Author.Tests.{eqb-true}
use Rattle.ground.specs.Choice.{pick}
use Rattle.ground.proofs.Cases.{both_left, both_right, clash, le_or_lt}
use Rattle.text_places.specs.Places.{first_from, first_where, or_else, last_from, last_where, starts, starts_pair}
use Rattle.text_places.proofs.PlaceLaws.{no_pair}

-- it stands at the place with the number `i`, where the first has the number `at`
record Stands (p : List ℕ → Bool) (at : ℕ) (l : List ℕ) (i : ℕ) : Type 0 where
  past : at ≤ i
  is : p (drop (i - at) l) ≡ true

module _ (p : List ℕ → Bool) where
  stands_first : (at x : ℕ) (l : List ℕ) {i : ℕ} → Some at ≡ Some i → p (x ∷ l) ≡ true → Stands p at (x ∷ l) i
  stands_first at x l {i} f e =
      let h : at ≡ i = cc in
      let z : i - at ≡ 0 = omega arith in
      record { past = omega arith; is = ap (λ k. p (drop k (x ∷ l))) z ∙ e }

  stands_later : (at x : ℕ) (l : List ℕ) (i : ℕ) → Stands p (suc at) l i → Stands p at (x ∷ l) i
  stands_later at x l i h =
      let b = h.past in
      let z : i - at ≡ suc (i - suc at) = omega arith in
      record { past = omega arith; is = ap (λ k. p (drop k (x ∷ l))) z ∙ h.is }

  first_stands : (at : ℕ) (l : List ℕ) {i : ℕ} → first_from p at l ≡ Some i → Stands p at l i
  unfolding first_from
  first_stands at [] e = absurd (let z : ◌≡◌ {A = ℕ} 0 1 = cc in omega arith)
  first_stands at (x ∷ l) {i} e = go (p (x ∷ l)) refl (λ f. first_stands (suc at) l f) e
    where
      go : (t : Bool) → p (x ∷ l) ≡ t → (first_from p (suc at) l ≡ Some i → Stands p (suc at) l i) → pick t (Some at) (first_from p (suc at) l) ≡ Some i → Stands p at (x ∷ l) i
      go true q again f = stands_first at x l f q
      go false q again f = stands_later at x l i (again f)

  last_stands : (at : ℕ) (l : List ℕ) {i : ℕ} → last_from p at l ≡ Some i → Stands p at l i
  unfolding last_from
  last_stands at [] e = absurd (let z : ◌≡◌ {A = ℕ} 0 1 = cc in omega arith)
  last_stands at (x ∷ l) {i} e = go (last_from p (suc at) l) refl (p (x ∷ l)) refl (λ f. last_stands (suc at) l f) e
    where
      go : (o : Option ℕ) → last_from p (suc at) l ≡ o → (t : Bool) → p (x ∷ l) ≡ t → (last_from p (suc at) l ≡ Some i → Stands p (suc at) l i) →
          or_else o (pick t (Some at) None) ≡ Some i → Stands p at (x ∷ l) i
      go (Some j) r t q again f = stands_later at x l i (again (r ∙ f))
      go None r true q again f = stands_first at x l f q
      go None r false q again f = absurd (let z : ◌≡◌ {A = ℕ} 0 1 = cc in omega arith)

  pub first_holds : (s : List ℕ) {i : ℕ} → first_where p s ≡ Some i → p (drop i s) ≡ true
  first_holds s {i} e = let z : i - 0 ≡ i = omega arith in ap (λ k. p (drop k s)) (sym z) ∙ (first_stands 0 s e).is

  pub last_holds : (s : List ℕ) {i : ℕ} → last_where p s ≡ Some i → p (drop i s) ≡ true
  last_holds s {i} e = let z : i - 0 ≡ i = omega arith in ap (λ k. p (drop k s)) (sym z) ∙ (last_stands 0 s e).is

-- a byte
head_is : (b : ℕ) (l : List ℕ) → starts b l ≡ true → get_or l 0 0 ≡ b
head_is b [] e = clash e refl
head_is b (x ∷ l) e = eqb-true x b e

pub byte_is : (b : ℕ) (s : List ℕ) (i : ℕ) → starts b (drop i s) ≡ true → get_or s i 0 ≡ b
byte_is b s i e = rw (get_or-drop i s 0 0, add-zero i) at (head_is b (drop i s) e)

pub first_is : (b : ℕ) (s : List ℕ) {i : ℕ} → first_where (starts b) s ≡ Some i → get_or s i 0 ≡ b
first_is b s {i} e = byte_is b s i (first_holds (starts b) s e)

pub last_is : (b : ℕ) (s : List ℕ) {i : ℕ} → last_where (starts b) s ≡ Some i → get_or s i 0 ≡ b
last_is b s {i} e = byte_is b s i (last_holds (starts b) s e)

-- bytes are counted from `at` on
pub first_past : (b at : ℕ) (l : List ℕ) {i : ℕ} → first_from (starts b) at l ≡ Some i → at ≤ i
first_past b at l e = (first_stands (starts b) at l e).past

-- both bytes of a pair
pair_is : (a b : ℕ) (l : List ℕ) → starts_pair a b l ≡ true → (get_or l 0 0 ≡ a) × (get_or l 1 0 ≡ b)
pair_is a b [] e = clash e refl
pair_is a b (x ∷ l) e = (eqb-true x a (both_left (eqb x a) (starts b l) e), head_is b l (both_right (eqb x a) (starts b l) e))

pub pair_stands : (a b : ℕ) (s : List ℕ) {i : ℕ} → first_where (starts_pair a b) s ≡ Some i → (get_or s i 0 ≡ a) × (get_or s (i + 1) 0 ≡ b)
pair_stands a b s {i} e =
    let h = pair_is a b (drop i s) (first_holds (starts_pair a b) s e) in
    (rw (get_or-drop i s 0 0, add-zero i) at h.0, rw (get_or-drop i s 1 0) at h.1)

pub pair_inside : (a b : ℕ) (s : List ℕ) {i : ℕ} → first_where (starts_pair a b) s ≡ Some i → i + 2 ≤ length s
pair_inside a b s {i} e = go (le_or_lt (length (drop i s)) 1)
  where
    go : (length (drop i s) ≤ 1) ⊎ (1 < length (drop i s)) → i + 2 ≤ length s
    go (inl h) = clash (first_holds (starts_pair a b) s e) (no_pair a b (drop i s) h)
    go (inr h) = omega (arith, length-drop i s)
