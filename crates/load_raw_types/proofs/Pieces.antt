-- The pieces of `L`, a text, `;`, found in the text: neither `L` nor `;` comes or goes where dots become slashes. Assumes nothing.
use Rattle.std.specs.Prelude.{Some, None}
use mathlib.Core.Path.{◌≡◌, refl, sym, ◌∙◌, ap}
use mathlib.Core.Bool.{Bool, true, false}
use mathlib.Core.List.{List, [], ◌∷◌, ◌++◌, map, append-nil}
use Prim.Native.Nat.{ℕ, zero, suc, ◌+◌, ◌-◌}
use native.Mathlib.Numerals.{add-one}
use native.Mathlib.Omega.{arith}
use lib.Dec.{eqb}
use lib.ListN.{length, get_or, take, drop, length-append, get_or-map}
use lib.Seq.{take_all, take-suc, drop-cons, take-append-le, drop-append-le, drop-length}
use borrow.Author.Tests.{eqb-true}
use Rattle.ground.specs.Choice.{pick}
use Rattle.text_places.specs.Places.{first_from, first_where, starts}
use Rattle.text_places.proofs.PlaceLaws.{first_inside}
use Rattle.text_places.proofs.Holds.{first_is}
use Rattle.table_pool.specs.Inner.Named.{slash_if, name_bytes, class_piece}
use Rattle.table_pool.specs.Names.{slash}
use Rattle.table_pool.proofs.Naming.{name_length}
use Rattle.ground.specs.Look.{Look, look_or}
use Rattle.descriptor.specs.Pieces.{turn}
use Rattle.descriptor.proofs.Turning.{turn_end, piece_step, plain_step, stays_step}

-- Lists that a map goes over.
pub map_take : (f : ℕ → ℕ) (n : ℕ) (l : List ℕ) → take n (map f l) ≡ map f (take n l)
map_take f zero l = refl
map_take f (suc n) [] = refl
map_take f (suc n) (x ∷ l) = ap (λ k. f x ∷ k) (map_take f n l)

pub map_drop : (f : ℕ → ℕ) (n : ℕ) (l : List ℕ) → drop n (map f l) ≡ map f (drop n l)
map_drop f zero l = refl
map_drop f (suc n) [] = refl
map_drop f (suc n) (x ∷ l) = map_drop f n l

-- First places.
first_map : (f : ℕ → ℕ) (b : ℕ) → ((x : ℕ) → eqb (f x) b ≡ eqb x b) → (at : ℕ) (l : List ℕ) → first_from (starts b) at (map f l) ≡ first_from (starts b) at l
unfolding first_from
first_map f b e at [] = refl
first_map f b e at (x ∷ l) = rw (e x) (ap (λ k. pick (eqb x b) (Some at) k) (first_map f b e (suc at) l))

first_more : (b at : ℕ) (l z : List ℕ) {i : ℕ} → first_from (starts b) at l ≡ Some i → first_from (starts b) at (l ++ z) ≡ Some i
unfolding first_from
first_more b at [] z e = absurd (let n : ◌≡◌ {A = ℕ} 0 1 = cc in omega arith)
first_more b at (x ∷ l) z {i} e = go (eqb x b) e (first_more b (suc at) l z)
  where
    go : (t : Bool) → pick t (Some at) (first_from (starts b) (suc at) l) ≡ Some i → (first_from (starts b) (suc at) l ≡ Some i → first_from (starts b) (suc at) (l ++ z) ≡ Some i) →
        pick t (Some at) (first_from (starts b) (suc at) (l ++ z)) ≡ Some i
    go true f again = f
    go false f again = again f

first_none : (b at : ℕ) (l z : List ℕ) → first_from (starts b) at l ≡ None → first_from (starts b) at (l ++ z) ≡ first_from (starts b) (length l + at) z
unfolding first_from
first_none b at [] z e = let q : at ≡ 0 + at = omega arith in ap (λ k. first_from (starts b) k z) q
first_none b at (x ∷ l) z e = go (eqb x b) e (first_none b (suc at) l z)
  where
    go : (t : Bool) → pick t (Some at) (first_from (starts b) (suc at) l) ≡ None →
        (first_from (starts b) (suc at) l ≡ None → first_from (starts b) (suc at) (l ++ z) ≡ first_from (starts b) (length l + suc at) z) →
        pick t (Some at) (first_from (starts b) (suc at) (l ++ z)) ≡ first_from (starts b) (suc (length l) + at) z
    go true f again = absurd (let n : ◌≡◌ {A = ℕ} 0 1 = cc in omega arith)
    go false f again = let q : length l + suc at ≡ suc (length l) + at = omega arith in again f ∙ ap (λ k. first_from (starts b) k z) q

first_later : (b at : ℕ) (l : List ℕ) {i : ℕ} → first_from (starts b) at l ≡ Some i → first_from (starts b) (suc at) l ≡ Some (suc i)
unfolding first_from
first_later b at [] e = absurd (let n : ◌≡◌ {A = ℕ} 0 1 = cc in omega arith)
first_later b at (x ∷ l) {i} e = go (eqb x b) e (first_later b (suc at) l)
  where
    go : (t : Bool) → pick t (Some at) (first_from (starts b) (suc at) l) ≡ Some i → (first_from (starts b) (suc at) l ≡ Some i → first_from (starts b) (suc (suc at)) l ≡ Some (suc i)) →
        pick t (Some (suc at)) (first_from (starts b) (suc (suc at)) l) ≡ Some (suc i)
    go true f again = let h : at ≡ i = cc in rw h
    go false f again = again f

first_nowhere : (b at : ℕ) (l : List ℕ) → first_from (starts b) at l ≡ None → first_from (starts b) (suc at) l ≡ None
unfolding first_from
first_nowhere b at [] e = refl
first_nowhere b at (x ∷ l) e = go (eqb x b) e (first_nowhere b (suc at) l)
  where
    go : (t : Bool) → pick t (Some at) (first_from (starts b) (suc at) l) ≡ None → (first_from (starts b) (suc at) l ≡ None → first_from (starts b) (suc (suc at)) l ≡ None) →
        pick t (Some (suc at)) (first_from (starts b) (suc (suc at)) l) ≡ None
    go true f again = absurd (let n : ◌≡◌ {A = ℕ} 0 1 = cc in omega arith)
    go false f again = again f

-- Neither byte comes or goes.
slash_keeps : (b : ℕ) → eqb 0x2F b ≡ false → eqb 0x2E b ≡ false → (x : ℕ) → eqb (slash x) b ≡ eqb x b
slash_keeps b p q x = go (eqb x 0x2E) refl
  where
    go : (t : Bool) → eqb x 0x2E ≡ t → eqb (pick t 0x2F x) b ≡ eqb x b
    go true e = p ∙ sym (ap (λ y. eqb y b) (eqb-true x 0x2E e) ∙ q)
    go false e = refl

stored_keeps : (b : ℕ) → eqb 0x2F b ≡ false → eqb 0x2E b ≡ false → (dots : Bool) (x : ℕ) → eqb (slash_if dots x) b ≡ eqb x b
stored_keeps b p q true x = slash_keeps b p q x
stored_keeps b p q false x = refl

stored_first : (b : ℕ) → eqb 0x2F b ≡ false → eqb 0x2E b ≡ false → (dots : Bool) (at : ℕ) (l : List ℕ) → first_from (starts b) at (name_bytes dots l) ≡ first_from (starts b) at l
stored_first b p q dots at l = first_map (slash_if dots) b (stored_keeps b p q dots) at l

-- The text `s` is what stands between an `L` and the last `;`.
module _ (look : List ℕ → Look) (dots : Bool) (s : List ℕ) where
  -- no `;` in it: one piece
  pub piece_whole : first_where (starts 0x3B) s ≡ None → turn look (class_piece dots s) ≡ look_or (class_piece dots s) (look (class_piece dots s))
  unfolding first_from
  piece_whole e =
      let m : first_from (starts 0x3B) 1 (name_bytes dots s) ≡ None = stored_first 0x3B refl refl dots 1 s ∙ first_nowhere 0x3B 0 s e in
      let f : first_where (starts 0x3B) (class_piece dots s) ≡ Some (length (name_bytes dots s) + 1) = first_none 0x3B 1 (name_bytes dots s) (0x3B ∷ []) m in
      let n : length (class_piece dots s) ≡ length (name_bytes dots s) + 1 + 1 = let k = length-append (name_bytes dots s) (0x3B ∷ []) in omega arith in
      let t = piece_step look 0x4C (name_bytes dots s ++ (0x3B ∷ [])) refl f in
      t ∙ rw (← n, take_all (length (class_piece dots s)) (class_piece dots s) (omega arith), drop-length (class_piece dots s), turn_end look) (append-nil (look_or (class_piece dots s) (look (class_piece dots s))))

  -- a `;` in it: the piece up to there, and what follows
  pub piece_first : {i : ℕ} → first_where (starts 0x3B) s ≡ Some i →
      turn look (class_piece dots s) ≡ look_or (class_piece dots (take i s)) (look (class_piece dots (take i s))) ++ turn look (name_bytes dots (drop (i + 1) s) ++ (0x3B ∷ []))
  unfolding first_from
  piece_first {i} e =
      let m : first_from (starts 0x3B) 1 (name_bytes dots s) ≡ Some (suc i) = stored_first 0x3B refl refl dots 1 s ∙ first_later 0x3B 0 s e in
      let f : first_where (starts 0x3B) (class_piece dots s) ≡ Some (suc i) = first_more 0x3B 1 (name_bytes dots s) (0x3B ∷ []) m in
      let inside = first_inside (starts 0x3B) s e in
      let size = name_length dots s in
      let is : take (suc i) (name_bytes dots s) ≡ name_bytes dots (take i s) ++ (0x3B ∷ []) = cut e in
      let up : suc i + 1 ≡ suc (suc i) = omega arith in
      let down : suc i ≡ i + 1 = omega arith in
      let front : take (suc i) (name_bytes dots s ++ (0x3B ∷ [])) ≡ name_bytes dots (take i s) ++ (0x3B ∷ []) = take-append-le (suc i) (name_bytes dots s) (0x3B ∷ []) (omega arith) ∙ is in
      let back : drop (suc i) (name_bytes dots s ++ (0x3B ∷ [])) ≡ name_bytes dots (drop (i + 1) s) ++ (0x3B ∷ []) =
      drop-append-le (suc i) (name_bytes dots s) (0x3B ∷ []) (omega arith) ∙ ap (λ l. l ++ (0x3B ∷ [])) (map_drop (slash_if dots) (suc i) s ∙ ap (λ n. name_bytes dots (drop n s)) down) in
      piece_step look 0x4C (name_bytes dots s ++ (0x3B ∷ [])) refl f ∙ rw (up, front, back)
    where
      semicolon : (b : Bool) → slash_if b 0x3B ≡ 0x3B
      semicolon true = refl
      semicolon false = refl

      cut : first_where (starts 0x3B) s ≡ Some i → take (suc i) (name_bytes dots s) ≡ name_bytes dots (take i s) ++ (0x3B ∷ [])
      cut f =
          let inside = first_inside (starts 0x3B) s f in
          let size = name_length dots s in
          let byte : get_or (name_bytes dots s) i (slash_if dots 0) ≡ 0x3B = get_or-map (slash_if dots) s i 0 ∙ ap (slash_if dots) (first_is 0x3B s f) ∙ semicolon dots in
          take-suc (name_bytes dots s) i (slash_if dots 0) (omega arith) ∙ rw (map_take (slash_if dots) i s, byte)

  -- outside a piece: bytes up to the next `L` stay, or all
  pub plain_first : {i : ℕ} → first_where (starts 0x4C) s ≡ Some i →
      turn look (name_bytes dots s ++ (0x3B ∷ [])) ≡ name_bytes dots (take i s) ++ turn look (class_piece dots (drop (i + 1) s))
  plain_first {i} e =
      let m : first_where (starts 0x4C) (name_bytes dots s) ≡ Some i = stored_first 0x4C refl refl dots 0 s ∙ e in
      let inside = first_inside (starts 0x4C) s e in
      let size = name_length dots s in
      let front : take i (name_bytes dots s ++ (0x3B ∷ [])) ≡ name_bytes dots (take i s) = take-append-le i (name_bytes dots s) (0x3B ∷ []) (omega arith) ∙ map_take (slash_if dots) i s in
      let byte : get_or (name_bytes dots s) i 0 ≡ 0x4C = first_is 0x4C (name_bytes dots s) m in
      let rest : drop i (name_bytes dots s) ≡ 0x4C ∷ name_bytes dots (drop (i + 1) s) =
      drop-cons (name_bytes dots s) i 0 (omega arith) ∙ rw (byte, map_drop (slash_if dots) (suc i) s, ← add-one i) in
      let back : drop i (name_bytes dots s ++ (0x3B ∷ [])) ≡ class_piece dots (drop (i + 1) s) = drop-append-le i (name_bytes dots s) (0x3B ∷ []) (omega arith) ∙ ap (λ l. l ++ (0x3B ∷ [])) rest in
      plain_step look (name_bytes dots s ++ (0x3B ∷ [])) (first_more 0x4C 0 (name_bytes dots s) (0x3B ∷ []) m) ∙ rw (front, back)

  pub plain_all : first_where (starts 0x4C) s ≡ None → turn look (name_bytes dots s ++ (0x3B ∷ [])) ≡ name_bytes dots s ++ (0x3B ∷ [])
  unfolding first_from
  plain_all e =
      let m : first_where (starts 0x4C) (name_bytes dots s) ≡ None = stored_first 0x4C refl refl dots 0 s ∙ e in
      stays_step look (name_bytes dots s ++ (0x3B ∷ [])) (first_none 0x4C 0 (name_bytes dots s) (0x3B ∷ []) m)
