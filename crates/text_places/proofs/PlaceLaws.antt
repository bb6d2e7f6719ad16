-- First and last places, and texts that are the same. Assumes nothing.
use Rattle.std.specs.Prelude.{Option, Some, None}
use mathlib.Core.Path.{◌≡◌, refl, sym, ◌∙◌, ap}
use mathlib.Core.Bool.{Bool, true, false}
use mathlib.Core.List.{List, [], ◌∷◌}
use Prim.Native.Nat.{ℕ, zero, suc, ◌+◌, ◌-◌, ◌^◌, ◌≤◌, ◌<◌}
use native.Mathlib.Numerals.{add-one}
use native.Mathlib.Omega.{arith}
use lib.Dec.{eqb}
use lib.ListN.{length, get_or, drop, length-drop, drop_of_length-le}
use lib.Seq.{drop-cons, drop-length}
use borrow.Author.Tests.{eq-eqb, ne_eqb, eqb-true}
use borrow.Author.Rules.{rules}
use mir.Val.{Fits}
use mir.Syntax.{w64}
use mathlib.Core.Logic.{◌⊎◌, inl, inr}
use Rattle.ground.specs.Choice.{pick, both}
use Rattle.ground.specs.Put.{between}
use Rattle.ground.proofs.Cases.{clash, both_left, both_right, le_or_lt, both_false}
use Rattle.ground.proofs.Parts.{take_rest}
use Rattle.text_places.specs.Places.{place_number, first_from, first_where, last_from, last_where, or_else, starts, starts_pair, same}

-- Forwards: the first place from here on is the first of the whole.
pub record Seeking (p : List ℕ → Bool) (s : List ℕ) (at : ℕ) : Type 0 where
  pub inside : at ≤ length s
  pub decides : first_from p at (drop at s) ≡ first_where p s

pub seeking_starts : (p : List ℕ → Bool) (s : List ℕ) → Seeking p s 0
seeking_starts p s = record { inside = omega arith; decides = refl }

module _ {p : List ℕ → Bool} {s : List ℕ} {at : ℕ} (k : Seeking p s at) where
  pub seeking_ends : length s ≤ at → None ≡ first_where p s
  unfolding first_from
  seeking_ends h = rw (drop_of_length-le s h) at k.decides

  module _ (h : at < length s) where
    here : drop at s ≡ get_or s at 0 ∷ drop (suc at) s
    here = drop-cons s at 0 h

    pub seeking_found : p (drop at s) ≡ true → Some at ≡ first_where p s
    unfolding first_from
    seeking_found e = rw (here, rw here at e) at k.decides

    pub seeking_more : p (drop at s) ≡ false → Seeking p s (at + 1)
    unfolding first_from
    seeking_more e = record { inside = omega arith; decides = rw add-one (rw (here, rw here at e) at k.decides) }

-- Backwards: there is none from here on.
pub record Backing (p : List ℕ → Bool) (s : List ℕ) («end» : ℕ) : Type 0 where
  pub inside : «end» ≤ length s
  pub none : last_from p «end» (drop «end» s) ≡ None

pub backing_starts : (p : List ℕ → Bool) (s : List ℕ) → Backing p s (length s)
unfolding last_from
backing_starts p s = record { inside = omega arith; none = rw (drop-length s) }

last_cons : (p : List ℕ → Bool) (at x : ℕ) (l : List ℕ) → last_from p at (x ∷ l) ≡ or_else (last_from p (suc at) l) (pick (p (x ∷ l)) (Some at) None)
unfolding last_from
last_cons p at x l = refl

-- a last place from somewhere on is the last of the whole
last_stays : (p : List ℕ → Bool) (s : List ℕ) (at i : ℕ) → at ≤ length s → last_from p at (drop at s) ≡ Some i → last_where p s ≡ Some i
unfolding last_from
last_stays p s zero i h e = e
last_stays p s (suc at) i h e = last_stays p s at i (omega arith) (rw (drop-cons s at 0 h, e))

module _ {p : List ℕ → Bool} {s : List ℕ} {«end» : ℕ} (k : Backing p s «end») where
  step_back : (at : ℕ) → at < length s → last_from p (suc at) (drop (suc at) s) ≡ None → last_from p at (drop at s) ≡ pick (p (drop at s)) (Some at) None
  step_back at h e = rw (drop-cons s at 0 h, last_cons, e)

  pub backing_ends : «end» ≤ 0 → None ≡ last_where p s
  backing_ends h = let z : «end» ≡ 0 = omega arith in sym (rw z at k.none)

  module _ (h : 0 < «end») where
    before : last_from p («end» - 1) (drop («end» - 1) s) ≡ pick (p (drop («end» - 1) s)) (Some («end» - 1)) None
    before =
        let up : «end» ≡ suc («end» - 1) = omega arith in
        step_back («end» - 1) (let q = k.inside in omega arith) (rw up at k.none)

    pub backing_found : p (drop («end» - 1) s) ≡ true → Some («end» - 1) ≡ last_where p s
    backing_found e = sym (last_stays p s («end» - 1) («end» - 1) (let q = k.inside in omega arith) (rw (before, e)))

    pub backing_more : p (drop («end» - 1) s) ≡ false → Backing p s («end» - 1)
    backing_more e = record { inside = let q = k.inside in omega arith; none = rw (before, e) }

-- A place that is found lies in the text.
first_from_inside : (p : List ℕ → Bool) (at : ℕ) (l : List ℕ) {i : ℕ} → first_from p at l ≡ Some i → i < at + length l
unfolding first_from
first_from_inside p at [] e = absurd (let z : ◌≡◌ {A = ℕ} 0 1 = cc in omega arith)
first_from_inside p at (x ∷ l) {i} e = go (p (x ∷ l)) e (first_from_inside p (suc at) l)
  where
    go : (b : Bool) → pick b (Some at) (first_from p (suc at) l) ≡ Some i → (first_from p (suc at) l ≡ Some i → i < suc at + length l) → i < at + suc (length l)
    go true f again = let q : at ≡ i = cc in omega arith
    go false f again = let h = again f in omega arith

pub first_inside : (p : List ℕ → Bool) (s : List ℕ) {i : ℕ} → first_where p s ≡ Some i → i < length s
first_inside p s e = let h = first_from_inside p 0 s e in omega arith

last_from_inside : (p : List ℕ → Bool) (at : ℕ) (l : List ℕ) {i : ℕ} → last_from p at l ≡ Some i → i < at + length l
unfolding last_from
last_from_inside p at [] e = absurd (let z : ◌≡◌ {A = ℕ} 0 1 = cc in omega arith)
last_from_inside p at (x ∷ l) {i} e = go (last_from p (suc at) l) e (last_from_inside p (suc at) l)
  where
    here : (b : Bool) → pick b (Some at) None ≡ Some i → at ≡ i
    here true f = cc
    here false f = absurd (let z : ◌≡◌ {A = ℕ} 0 1 = cc in omega arith)

    go : (o : Option ℕ) → or_else o (pick (p (x ∷ l)) (Some at) None) ≡ Some i → (o ≡ Some i → i < suc at + length l) → i < at + suc (length l)
    go (Some j) f again = let h = again f in omega arith
    go None f again = let q = here (p (x ∷ l)) f in omega arith

pub last_inside : (p : List ℕ → Bool) (s : List ℕ) {i : ℕ} → last_where p s ≡ Some i → i < length s
last_inside p s e = let h = last_from_inside p 0 s e in omega arith

-- One byte.
module _ (b : ℕ) (s : List ℕ) (at : ℕ) (h : at < length s) where
  pub byte_here : get_or s at 0 ≡ b → starts b (drop at s) ≡ true
  byte_here e = rw (drop-cons s at 0 h, eq-eqb (get_or s at 0) b e)

  pub byte_other : (get_or s at 0 ≡ b → ⊥) → starts b (drop at s) ≡ false
  byte_other e = rw (drop-cons s at 0 h, ne_eqb (get_or s at 0) b e)

pub backing_inside : {s : List ℕ} {«end» : ℕ} {p : List ℕ → Bool} → Backing p s «end» → 0 < «end» → «end» - 1 < length s
backing_inside k h = let i = k.inside in omega arith

pub ruleset seeking = (seeking_starts, seeking_ends, seeking_found, seeking_more, byte_here, byte_other, rules)

-- Two bytes a turn.
module _ {b : ℕ} {s : List ℕ} {«end» : ℕ} (k : Backing (starts b) s «end») (h : 0 < «end») (n : get_or s («end» - 1) 0 ≡ b → ⊥) where
  one_less : Backing (starts b) s («end» - 1)
  one_less = backing_more k h (byte_other b s («end» - 1) (omega (arith, k.inside)) n)

  pub second_ends : «end» - 1 ≡ 0 → None ≡ last_where (starts b) s
  second_ends z = backing_ends one_less (omega arith)

  module _ (z : «end» - 1 ≡ 0 → ⊥) where
    some_left : 0 < «end» - 1
    some_left = omega arith

    pub second_found : get_or s («end» - 1 - 1) 0 ≡ b → Some («end» - 1 - 1) ≡ last_where (starts b) s
    second_found e = backing_found one_less some_left (byte_here b s («end» - 1 - 1) (omega (arith, k.inside)) e)

    pub second_more : (get_or s («end» - 1 - 1) 0 ≡ b → ⊥) → Backing (starts b) s («end» - 1 - 1)
    second_more e = backing_more one_less some_left (byte_other b s («end» - 1 - 1) (omega (arith, k.inside)) e)

pub ruleset backing = (backing_starts, backing_ends, backing_found, backing_more, byte_here, byte_other, backing_inside, second_ends, second_found, second_more, rules)

-- Two bytes.
module _ (a b : ℕ) (s : List ℕ) (at : ℕ) (h : at + 1 < length s) where
  two_bytes : drop at s ≡ get_or s at 0 ∷ (get_or s (at + 1) 0 ∷ drop (suc (at + 1)) s)
  two_bytes = rw (drop-cons s at 0 (omega arith), ← add-one at, drop-cons s (at + 1) 0 h)

  pub pair_here : get_or s at 0 ≡ a → get_or s (at + 1) 0 ≡ b → starts_pair a b (drop at s) ≡ true
  pair_here e f = rw (two_bytes, eq-eqb (get_or s at 0) a e, eq-eqb (get_or s (at + 1) 0) b f)

  pub pair_first_other : (get_or s at 0 ≡ a → ⊥) → starts_pair a b (drop at s) ≡ false
  pair_first_other e = rw (two_bytes, ne_eqb (get_or s at 0) a e)

  pub pair_second_other : get_or s at 0 ≡ a → (get_or s (at + 1) 0 ≡ b → ⊥) → starts_pair a b (drop at s) ≡ false
  pair_second_other e f = rw (two_bytes, eq-eqb (get_or s at 0) a e, ne_eqb (get_or s (at + 1) 0) b f)

pub no_pair : (a b : ℕ) (l : List ℕ) → length l ≤ 1 → starts_pair a b l ≡ false
no_pair a b [] h = refl
no_pair a b (x ∷ []) h = both_false (eqb x a)
no_pair a b (x ∷ (y ∷ l)) h = absurd (omega arith)

module _ (a b : ℕ) {s : List ℕ} {at : ℕ} (k : Seeking (starts_pair a b) s at) where
  pub pair_ends : length s ≤ at + 1 → None ≡ first_where (starts_pair a b) s
  pair_ends h = go (le_or_lt (length s) at)
    where
      go : (length s ≤ at) ⊎ (at < length s) → None ≡ first_where (starts_pair a b) s
      go (inl e) = seeking_ends k e
      go (inr l) = seeking_ends (seeking_more k l (no_pair a b (drop at s) (rw length-drop (omega arith)))) h

  pub pair_more : at + 1 < length s → starts_pair a b (drop at s) ≡ false → Seeking (starts_pair a b) s (at + 1)
  pair_more h e = seeking_more k (omega arith) e

  pub pair_found : at + 1 < length s → starts_pair a b (drop at s) ≡ true → Some at ≡ first_where (starts_pair a b) s
  pair_found h e = seeking_found k (omega arith) e

pub ruleset pairing = (seeking_starts, pair_ends, pair_more, pair_found, pair_here, pair_first_other, pair_second_other, rules)

-- A byte that is looked for from a place on.
module _ (b : ℕ) (text : List ℕ) (at : ℕ) where
  pub from_here : {p : Option ℕ} → p ≡ first_where (starts b) (between text at (length text)) → p ≡ first_where (starts b) (drop at text)
  from_here e = rw (take_rest text at) at e

  pub from_inside : at ≤ length text → {p : Option ℕ} → p ≡ first_where (starts b) (between text at (length text)) →
      {n : ℕ} → p ≡ Some n → at + n < length text
  from_inside i e f =
      let j = first_inside (starts b) (drop at text) (sym (from_here e) ∙ f) in omega (arith, length-drop at text)

-- two texts are the same exactly where they are equal
pub same_equal : (s t : List ℕ) → same s t ≡ true → s ≡ t
unfolding same
same_equal [] [] e = refl
same_equal [] (y ∷ t) e = clash e refl
same_equal (x ∷ s) [] e = clash e refl
same_equal (x ∷ s) (y ∷ t) e =
    let head = eqb-true x y (both_left (eqb x y) (same s t) e) in
    let tail = same_equal s t (both_right (eqb x y) (same s t) e) in
    cc

pub same_refl : (s : List ℕ) → same s s ≡ true
unfolding same
same_refl [] = refl
same_refl (x ∷ s) = rw (eq-eqb x x refl) (same_refl s)

pub unlike : (s t : List ℕ) → (s ≡ t → ⊥) → false ≡ same s t
unlike s t n = go (same s t) refl
  where
    go : (b : Bool) → same s t ≡ b → false ≡ b
    go true e = absurd (n (same_equal s t e))
    go false e = refl

pub unlike_at : (s t : List ℕ) (i : ℕ) → (get_or s i 0 ≡ get_or t i 0 → ⊥) → false ≡ same s t
unlike_at s t i n = unlike s t (λ e. n (ap (λ l. get_or l i 0) e))

-- The same bytes.
pub record Matching (s t : List ℕ) (i : ℕ) : Type 0 where
  pub even : length s ≡ length t
  pub inside : i ≤ length s
  pub decides : same (drop i s) (drop i t) ≡ same s t

pub matching_starts : {s t : List ℕ} → length s ≡ length t → Matching s t 0
matching_starts e = record { even = e; inside = omega arith; decides = refl }

pub matching_uneven : (s t : List ℕ) → (length s ≡ length t → ⊥) → false ≡ same s t
matching_uneven s t n = unlike s t (λ e. n (ap length e))

module _ {s t : List ℕ} {i : ℕ} (k : Matching s t i) where
  pub matching_ends : length s ≤ i → true ≡ same s t
  unfolding same
  matching_ends h =
      let g : length t ≤ i = let e = k.even in omega arith in
      rw (drop_of_length-le s h, drop_of_length-le t g) at k.decides

  module _ (h : i < length s) where
    both_here : same (drop i s) (drop i t) ≡ both (eqb (get_or s i 0) (get_or t i 0)) (same (drop (suc i) s) (drop (suc i) t))
    unfolding same
    both_here = rw (drop-cons s i 0 h, drop-cons t i 0 (let e = k.even in omega arith))

    pub matching_differs : (get_or s i 0 ≡ get_or t i 0 → ⊥) → false ≡ same s t
    matching_differs n = unlike_at s t i n

    pub matching_more : get_or s i 0 ≡ get_or t i 0 → Matching s t (i + 1)
    matching_more e = record {
      even = k.even;
      inside = omega arith;
      decides = rw add-one (rw (both_here, eq-eqb (get_or s i 0) (get_or t i 0) e) at k.decides);
    }

    pub matching_inside : i < length t
    matching_inside = let e = k.even in omega arith

pub ruleset matching = (matching_starts, matching_uneven, matching_ends, matching_differs, matching_more, matching_inside, rules)

-- The number of a place: one more than the place.
pub place_fits : {o : Option ℕ} {i : ℕ} → o ≡ Some i → place_number o < 2 ^ 64 → Fits w64 (i + 1)
place_fits e h = let l = rw e at h in omega arith
