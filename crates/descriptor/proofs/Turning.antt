-- Turning a descriptor goes from part to part. Assumes nothing.
use Rattle.std.specs.Prelude.{Some, None}
use mathlib.Core.Path.{◌≡◌, refl, ◌∙◌, ap}
use mathlib.Core.Bool.{Bool, true, false}
use mathlib.Core.List.{List, [], ◌∷◌, ◌++◌, map, append_assoc}
use Prim.Native.Nat.{ℕ, suc, ◌+◌, ◌-◌}
use native.Mathlib.Omega.{arith}
use lib.Dec.{eqb}
use lib.ListN.{take, drop}
use borrow.Author.Tests.{eqb-true}
use Rattle.ground.specs.Choice.{pick}
use Rattle.text_places.specs.Places.{first_from, first_where, starts}
use Rattle.text_places.proofs.Holds.{first_past}
use Rattle.ground.specs.Look.{Look, look_or}
use Rattle.ground.specs.Join.{join}
use Rattle.descriptor.specs.Pieces.{Part, byte, piece, parts_from, turned, turn}

-- what parts become
abbrev turned_all : (List ℕ → Look) → List Part → List ℕ
turned_all look ps = join (map (turned look) ps)

bytes_stay : (look : List ℕ → Look) (w : List ℕ) (ps : List Part) → turned_all look (map byte w ++ ps) ≡ w ++ turned_all look ps
unfolding join
bytes_stay look [] ps = refl
bytes_stay look (x ∷ w) ps = ap (λ l. x ∷ l) (bytes_stay look w ps)

-- bytes of no piece stay
pub only_bytes : (look : List ℕ → Look) (w : List ℕ) → join (map (turned look) (map byte w)) ≡ w
unfolding join
only_bytes look [] = refl
only_bytes look (x ∷ w) = ap (λ l. x ∷ l) (only_bytes look w)

-- an `L` that is closed
closed_from : (a : ℕ) (w : List ℕ) (at : ℕ) (l : List ℕ) {i : ℕ} → first_from (starts 0x3B) at l ≡ Some i →
    parts_from (a ∷ w) l ≡ piece (a ∷ (w ++ take (suc (i - at)) l)) ∷ parts_from [] (drop (suc (i - at)) l)
unfolding first_from parts_from
closed_from a w at [] e = absurd (let z : ◌≡◌ {A = ℕ} 0 1 = cc in omega arith)
closed_from a w at (x ∷ l) {i} e = go (eqb x 0x3B) refl (λ f. closed_from a (w ++ (x ∷ [])) (suc at) l f) e
  where
    go : (t : Bool) → eqb x 0x3B ≡ t →
        (first_from (starts 0x3B) (suc at) l ≡ Some i → parts_from (a ∷ (w ++ (x ∷ []))) l ≡ piece (a ∷ ((w ++ (x ∷ [])) ++ take (suc (i - suc at)) l)) ∷ parts_from [] (drop (suc (i - suc at)) l)) →
        pick t (Some at) (first_from (starts 0x3B) (suc at) l) ≡ Some i →
        parts_from (a ∷ w) (x ∷ l) ≡ piece (a ∷ (w ++ take (suc (i - at)) (x ∷ l))) ∷ parts_from [] (drop (suc (i - at)) (x ∷ l))
    go true q again f =
        let here : at ≡ i = cc in
        let z : i - at ≡ 0 = omega arith in
        rw (q, z)
    go false q again f =
        let later = first_past 0x3B (suc at) l f in
        let z : i - at ≡ suc (i - suc at) = omega arith in
        rw (q, z) (again f ∙ ap (λ k. piece (a ∷ k) ∷ parts_from [] (drop (suc (i - suc at)) l)) (append_assoc w (x ∷ []) (take (suc (i - suc at)) l)))

-- bytes up to an `L`
plain_from : (at : ℕ) (l : List ℕ) {i : ℕ} → first_from (starts 0x4C) at l ≡ Some i → parts_from [] l ≡ map byte (take (i - at) l) ++ parts_from [] (drop (i - at) l)
unfolding first_from parts_from
plain_from at [] e = absurd (let z : ◌≡◌ {A = ℕ} 0 1 = cc in omega arith)
plain_from at (x ∷ l) {i} e = go (eqb x 0x4C) refl (λ f. plain_from (suc at) l f) e
  where
    go : (t : Bool) → eqb x 0x4C ≡ t →
        (first_from (starts 0x4C) (suc at) l ≡ Some i → parts_from [] l ≡ map byte (take (i - suc at) l) ++ parts_from [] (drop (i - suc at) l)) →
        pick t (Some at) (first_from (starts 0x4C) (suc at) l) ≡ Some i → parts_from [] (x ∷ l) ≡ map byte (take (i - at) (x ∷ l)) ++ parts_from [] (drop (i - at) (x ∷ l))
    go true q again f =
        let here : at ≡ i = cc in
        let z : i - at ≡ 0 = omega arith in
        rw z
    go false q again f =
        let later = first_past 0x4C (suc at) l f in
        let z : i - at ≡ suc (i - suc at) = omega arith in
        rw (q, z) (ap (λ ps. byte x ∷ ps) (again f))

no_l_from : (at : ℕ) (l : List ℕ) → first_from (starts 0x4C) at l ≡ None → parts_from [] l ≡ map byte l
unfolding first_from parts_from
no_l_from at [] e = refl
no_l_from at (x ∷ l) e = go (eqb x 0x4C) refl (λ f. no_l_from (suc at) l f) e
  where
    go : (t : Bool) → eqb x 0x4C ≡ t → (first_from (starts 0x4C) (suc at) l ≡ None → parts_from [] l ≡ map byte l) →
        pick t (Some at) (first_from (starts 0x4C) (suc at) l) ≡ None → parts_from [] (x ∷ l) ≡ map byte (x ∷ l)
    go true q again f = absurd (let z : ◌≡◌ {A = ℕ} 0 1 = cc in omega arith)
    go false q again f = rw q (ap (λ ps. byte x ∷ ps) (again f))

-- The laws by which a reader in steps goes: `l` is what is left of the descriptor.
module _ (look : List ℕ → Look) where
  pub turn_end : turn look [] ≡ []
  unfolding parts_from join
  turn_end = refl

  -- an `L` with a `;` behind it: a piece, and what follows it
  pub piece_step : (x : ℕ) (l : List ℕ) {i : ℕ} → eqb x 0x4C ≡ true → first_where (starts 0x3B) (x ∷ l) ≡ Some i →
      turn look (x ∷ l) ≡ look_or (take (i + 1) (x ∷ l)) (look (take (i + 1) (x ∷ l))) ++ turn look (drop (i + 1) (x ∷ l))
  unfolding parts_from first_from join
  piece_step x l {i} q e =
      let is = eqb-true x 0x4C q in
      let no_semicolon_lem : eqb x 0x3B ≡ false = ap (λ y. eqb y 0x3B) is in
      let f : first_from (starts 0x3B) 1 l ≡ Some i = rw no_semicolon_lem at e in
      let later = first_past 0x3B 1 l f in
      let z : i + 1 ≡ suc (suc (i - 1)) = omega arith in
      rw (q, z) (ap (turned_all look) (closed_from x [] 1 l f))

  -- bytes up to the next `L` stay
  pub plain_step : (l : List ℕ) {i : ℕ} → first_where (starts 0x4C) l ≡ Some i → turn look l ≡ take i l ++ turn look (drop i l)
  plain_step l {i} e =
      let z : i - 0 ≡ i = omega arith in
      let parts : parts_from [] l ≡ map byte (take i l) ++ parts_from [] (drop i l) = plain_from 0 l e ∙ rw z in
      ap (turned_all look) parts ∙ bytes_stay look (take i l) (parts_from [] (drop i l))

  -- without an `L` all stays
  pub stays_step : (l : List ℕ) → first_where (starts 0x4C) l ≡ None → turn look l ≡ l
  stays_step l e = ap (turned_all look) (no_l_from 0 l e) ∙ only_bytes look l
