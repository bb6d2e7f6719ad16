-- Whether one piece of a descriptor is known, asked from part to part. Where none is, the descriptor stays. Assumes nothing.
use Rattle.std.specs.Prelude.{Some, None}
use mathlib.Core.Path.{◌≡◌, refl, sym, ◌∙◌, ap}
use mathlib.Core.Bool.{Bool, true, false}
use mathlib.Core.List.{List, [], ◌∷◌, ◌++◌, map, append_assoc, append-nil}
use Prim.Native.Nat.{ℕ, suc, ◌+◌, ◌-◌}
use native.Mathlib.Omega.{arith}
use lib.Dec.{eqb}
use lib.ListN.{take, drop}
use borrow.Author.Tests.{eqb-true}
use Rattle.ground.specs.Choice.{pick, either}
use Rattle.ground.specs.Join.{join}
use Rattle.ground.specs.Look.{Look, known, unknown, is_known, look_or}
use Rattle.ground.proofs.Cases.{either_left, either_right, clash}
use Rattle.text_places.specs.Places.{first_from, first_where, starts}
use Rattle.text_places.proofs.Holds.{first_past}
use Rattle.descriptor.specs.Pieces.{byte, piece, parts_from, turned, turn}
use Rattle.descriptor.proofs.Turning.{only_bytes}
use Rattle.apply_rule.specs.Changes.{piece_known}

module _ (look : List ℕ → Look) where
  -- one piece is known, where `w` are the bytes of a piece that has begun
  abbrev one : List ℕ → List ℕ → Bool
  one w l = piece_known look (parts_from w l)

  bytes_unknown : (w : List ℕ) → piece_known look (map byte w) ≡ false
  unfolding piece_known
  bytes_unknown [] = refl
  bytes_unknown (x ∷ w) = bytes_unknown w

  -- an `L` that is closed
  closed_known : (a : ℕ) (w : List ℕ) (at : ℕ) (l : List ℕ) {i : ℕ} → first_from (starts 0x3B) at l ≡ Some i →
      one (a ∷ w) l ≡ either (is_known (look (a ∷ (w ++ take (suc (i - at)) l)))) (one [] (drop (suc (i - at)) l))
  unfolding first_from parts_from piece_known
  closed_known a w at [] e = absurd (let z : ◌≡◌ {A = ℕ} 0 1 = cc in omega arith)
  closed_known a w at (x ∷ l) {i} e = go (eqb x 0x3B) refl (λ f. closed_known a (w ++ (x ∷ [])) (suc at) l f) e
    where
      go : (t : Bool) → eqb x 0x3B ≡ t →
          (first_from (starts 0x3B) (suc at) l ≡ Some i →
          one (a ∷ (w ++ (x ∷ []))) l ≡
          either (is_known (look (a ∷ ((w ++ (x ∷ [])) ++ take (suc (i - suc at)) l)))) (one [] (drop (suc (i - suc at)) l))) →
          pick t (Some at) (first_from (starts 0x3B) (suc at) l) ≡ Some i →
          one (a ∷ w) (x ∷ l) ≡ either (is_known (look (a ∷ (w ++ take (suc (i - at)) (x ∷ l))))) (one [] (drop (suc (i - at)) (x ∷ l)))
      go true q again f =
          let here : at ≡ i = cc in
          let z : i - at ≡ 0 = omega arith in
          rw (q, z)
      go false q again f =
          let later = first_past 0x3B (suc at) l f in
          let z : i - at ≡ suc (i - suc at) = omega arith in
          rw (q, z) (again f
          ∙ ap (λ k. either (is_known (look (a ∷ k))) (one [] (drop (suc (i - suc at)) l)))
          (append_assoc w (x ∷ []) (take (suc (i - suc at)) l)))

  -- an `L` that is not
  unclosed_unknown : (a : ℕ) (w : List ℕ) (at : ℕ) (l : List ℕ) → first_from (starts 0x3B) at l ≡ None → one (a ∷ w) l ≡ false
  unfolding first_from parts_from
  unclosed_unknown a w at [] e = bytes_unknown (a ∷ w)
  unclosed_unknown a w at (x ∷ l) e = go (eqb x 0x3B) refl (λ f. unclosed_unknown a (w ++ (x ∷ [])) (suc at) l f) e
    where
      go : (t : Bool) → eqb x 0x3B ≡ t → (first_from (starts 0x3B) (suc at) l ≡ None → one (a ∷ (w ++ (x ∷ []))) l ≡ false) →
          pick t (Some at) (first_from (starts 0x3B) (suc at) l) ≡ None → one (a ∷ w) (x ∷ l) ≡ false
      go true q again f = absurd (let z : ◌≡◌ {A = ℕ} 0 1 = cc in omega arith)
      go false q again f = rw q (again f)

  -- bytes up to an `L`
  plain_known : (at : ℕ) (l : List ℕ) {i : ℕ} → first_from (starts 0x4C) at l ≡ Some i → one [] l ≡ one [] (drop (i - at) l)
  unfolding first_from parts_from piece_known
  plain_known at [] e = absurd (let z : ◌≡◌ {A = ℕ} 0 1 = cc in omega arith)
  plain_known at (x ∷ l) {i} e = go (eqb x 0x4C) refl (λ f. plain_known (suc at) l f) e
    where
      go : (t : Bool) → eqb x 0x4C ≡ t →
          (first_from (starts 0x4C) (suc at) l ≡ Some i → one [] l ≡ one [] (drop (i - suc at) l)) →
          pick t (Some at) (first_from (starts 0x4C) (suc at) l) ≡ Some i → one [] (x ∷ l) ≡ one [] (drop (i - at) (x ∷ l))
      go true q again f =
          let here : at ≡ i = cc in
          let z : i - at ≡ 0 = omega arith in
          rw z
      go false q again f =
          let later = first_past 0x4C (suc at) l f in
          let z : i - at ≡ suc (i - suc at) = omega arith in
          rw (q, z) (again f)

  no_l_unknown : (at : ℕ) (l : List ℕ) → first_from (starts 0x4C) at l ≡ None → one [] l ≡ false
  unfolding first_from parts_from piece_known
  no_l_unknown at [] e = refl
  no_l_unknown at (x ∷ l) e = go (eqb x 0x4C) refl (λ f. no_l_unknown (suc at) l f) e
    where
      go : (t : Bool) → eqb x 0x4C ≡ t → (first_from (starts 0x4C) (suc at) l ≡ None → one [] l ≡ false) →
          pick t (Some at) (first_from (starts 0x4C) (suc at) l) ≡ None → one [] (x ∷ l) ≡ false
      go true q again f = absurd (let z : ◌≡◌ {A = ℕ} 0 1 = cc in omega arith)
      go false q again f = rw q (again f)

  -- The laws by which a reader in steps goes: `l` is what is left of the descriptor.

  -- an `L` with a `;` behind it: a piece, and what follows it
  pub known_at_piece : (x : ℕ) (l : List ℕ) {i : ℕ} → eqb x 0x4C ≡ true → first_where (starts 0x3B) (x ∷ l) ≡ Some i →
      piece_known look (parts_from [] (x ∷ l)) ≡
      either (is_known (look (take (i + 1) (x ∷ l)))) (piece_known look (parts_from [] (drop (i + 1) (x ∷ l))))
  unfolding parts_from first_from
  known_at_piece x l {i} q e =
      let is = eqb-true x 0x4C q in
      let no_semicolon_lem : eqb x 0x3B ≡ false = ap (λ y. eqb y 0x3B) is in
      let f : first_from (starts 0x3B) 1 l ≡ Some i = rw no_semicolon_lem at e in
      let later = first_past 0x3B 1 l f in
      let z : i + 1 ≡ suc (suc (i - 1)) = omega arith in
      rw (q, z) (closed_known x [] 1 l f)

  -- with none: nothing is known
  pub unknown_at_rest : (x : ℕ) (l : List ℕ) → eqb x 0x4C ≡ true → first_where (starts 0x3B) (x ∷ l) ≡ None →
      piece_known look (parts_from [] (x ∷ l)) ≡ false
  unfolding parts_from first_from
  unknown_at_rest x l q e =
      let is = eqb-true x 0x4C q in
      let no_semicolon_lem : eqb x 0x3B ≡ false = ap (λ y. eqb y 0x3B) is in
      let f : first_from (starts 0x3B) 1 l ≡ None = rw no_semicolon_lem at e in
      rw q (unclosed_unknown x [] 1 l f)

  -- bytes up to the next `L` are no piece
  pub known_past_plain : (l : List ℕ) {i : ℕ} → first_where (starts 0x4C) l ≡ Some i →
      piece_known look (parts_from [] l) ≡ piece_known look (parts_from [] (drop i l))
  known_past_plain l {i} e = let z : i - 0 ≡ i = omega arith in plain_known 0 l e ∙ rw z

  -- without an `L` nothing is known
  pub unknown_without_l : (l : List ℕ) → first_where (starts 0x4C) l ≡ None → piece_known look (parts_from [] l) ≡ false
  unknown_without_l l e = no_l_unknown 0 l e

  -- "A descriptor is replaced if one piece is known": else turning leaves it as it is.
  unknown_itself : (p : List ℕ) (l : Look) → is_known l ≡ false → look_or p l ≡ p
  unknown_itself p (known q) e = clash refl e
  unknown_itself p unknown e = refl

  stays_from : (w s : List ℕ) → piece_known look (parts_from w s) ≡ false → join (map (turned look) (parts_from w s)) ≡ w ++ s
  unfolding parts_from piece_known join
  stays_from w [] e = only_bytes look w ∙ sym (append-nil w)
  stays_from [] (b ∷ s) e = go (eqb b 0x4C) (stays_from (b ∷ []) s) (stays_from [] s) e
    where
      go : (t : Bool) → (piece_known look (parts_from (b ∷ []) s) ≡ false → join (map (turned look) (parts_from (b ∷ []) s)) ≡ b ∷ s) →
          (piece_known look (parts_from [] s) ≡ false → join (map (turned look) (parts_from [] s)) ≡ s) →
          piece_known look (pick t (parts_from (b ∷ []) s) (byte b ∷ parts_from [] s)) ≡ false →
          join (map (turned look) (pick t (parts_from (b ∷ []) s) (byte b ∷ parts_from [] s))) ≡ b ∷ s
      go true begun plain f = begun f
      go false begun plain f = ap (λ l. b ∷ l) (plain f)
  stays_from (a ∷ w) (b ∷ s) e = go (eqb b 0x3B) (stays_from [] s) (stays_from (a ∷ (w ++ (b ∷ []))) s) e
    where
      here : List ℕ
      here = a ∷ (w ++ (b ∷ []))

      same : here ++ s ≡ a ∷ (w ++ (b ∷ s))
      same = ap (λ l. a ∷ l) (append_assoc w (b ∷ []) s)

      go : (t : Bool) → (piece_known look (parts_from [] s) ≡ false → join (map (turned look) (parts_from [] s)) ≡ s) →
          (piece_known look (parts_from here s) ≡ false → join (map (turned look) (parts_from here s)) ≡ here ++ s) →
          piece_known look (pick t (piece here ∷ parts_from [] s) (parts_from here s)) ≡ false →
          join (map (turned look) (pick t (piece here ∷ parts_from [] s) (parts_from here s))) ≡ a ∷ (w ++ (b ∷ s))
      go true closed going f =
          let none = either_left (is_known (look here)) (piece_known look (parts_from [] s)) f in
          let rest = closed (either_right (is_known (look here)) (piece_known look (parts_from [] s)) f) in
          rw (unknown_itself here (look here) none, rest) same
      go false closed going f = going f ∙ same

  pub unknown_stays : (d : List ℕ) → piece_known look (parts_from [] d) ≡ false → turn look d ≡ d
  unknown_stays d e = stays_from [] d e
