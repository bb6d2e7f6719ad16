-- The first place of a byte in a part of a text, by the first one in the whole. Assumes nothing.
use Rattle.std.specs.Prelude.{Some, None}
use mathlib.Core.Path.{◌≡◌}
use mathlib.Core.Bool.{Bool, true, false}
use mathlib.Core.List.{List, [], ◌∷◌}
use Prim.Native.Nat.{ℕ, zero, suc, ◌+◌, ◌-◌, ◌≤◌}
use native.Mathlib.Nat.{add-zero}
use native.Mathlib.Omega.{arith}
use lib.Dec.{eqb, ltb}
use lib.ListN.{take, drop}
use borrow.Author.Tests.{lt-ltb, le-ltb}
use Rattle.ground.specs.Choice.{pick}
use Rattle.ground.specs.Put.{between}
use Rattle.text_places.specs.Places.{first_from, first_where, starts}
use Rattle.text_places.proofs.Holds.{first_past}

module _ (b : ℕ) where
  -- it is still the first where bytes before it are left out
  first_left : (n at : ℕ) (l : List ℕ) {i : ℕ} → first_from (starts b) at l ≡ Some i → at + n ≤ i → first_from (starts b) (at + n) (drop n l) ≡ Some i
  unfolding first_from
  first_left zero at l f h = rw (add-zero at) f
  first_left (suc n) at [] f h = absurd (let z : ◌≡◌ {A = ℕ} 0 1 = cc in omega arith)
  first_left (suc n) at (x ∷ l) {i} f h = go (eqb x b) f (first_left n (suc at) l)
    where
      go : (t : Bool) → pick t (Some at) (first_from (starts b) (suc at) l) ≡ Some i →
          (first_from (starts b) (suc at) l ≡ Some i → suc at + n ≤ i → first_from (starts b) (suc at + n) (drop n l) ≡ Some i) →
          first_from (starts b) (at + suc n) (drop n l) ≡ Some i
      go true g again = absurd (let z : at ≡ i = cc in omega arith)
      go false g again = let z : suc at + n ≡ at + suc n = omega arith in rw z at (again g (omega arith))

  -- of the first `n` bytes, counted from another number on
  first_taken : (at k n : ℕ) (l : List ℕ) {i : ℕ} → first_from (starts b) at l ≡ Some i → first_from (starts b) k (take n l) ≡ pick (ltb i (at + n)) (Some (k + (i - at))) None
  unfolding first_from
  first_taken at k zero l {i} f = let p = first_past b at l f in rw (le-ltb i (at + 0) (omega arith))
  first_taken at k (suc n) [] f = absurd (let z : ◌≡◌ {A = ℕ} 0 1 = cc in omega arith)
  first_taken at k (suc n) (x ∷ l) {i} f = go (eqb x b) f (first_taken (suc at) (suc k) n l)
    where
      go : (t : Bool) → pick t (Some at) (first_from (starts b) (suc at) l) ≡ Some i →
          (first_from (starts b) (suc at) l ≡ Some i → first_from (starts b) (suc k) (take n l) ≡ pick (ltb i (suc at + n)) (Some (suc k + (i - suc at))) None) →
          pick t (Some k) (first_from (starts b) (suc k) (take n l)) ≡ pick (ltb i (at + suc n)) (Some (k + (i - at))) None
      go true g again =
          let q : at ≡ i = cc in
          let z : k + (i - at) ≡ k = omega arith in
          rw (lt-ltb i (at + suc n) (omega arith), z)
      go false g again =
          let p = first_past b (suc at) l g in
          let y : suc at + n ≡ at + suc n = omega arith in
          let z : suc k + (i - suc at) ≡ k + (i - at) = omega arith in
          rw (y, z) at (again g)

  pub first_in_part : (s : List ℕ) {i : ℕ} → first_where (starts b) s ≡ Some i → (a e : ℕ) → a ≤ e → a ≤ i → first_where (starts b) (between s a e) ≡ pick (ltb i e) (Some (i - a)) None
  first_in_part s {i} f a e h j =
      let y : 0 + a + (e - a) ≡ e = omega arith in
      let z : 0 + (i - (0 + a)) ≡ i - a = omega arith in
      rw (y, z) at (first_taken (0 + a) 0 (e - a) (drop a s) (first_left a 0 s f (omega arith)))
