-- Raw signatures, where they stand in the pool. Assumes nothing.
use Rattle.std.specs.Prelude.{Option, Some, None, Result}
use mathlib.Core.Path.{◌≡◌, refl, sym, ◌∙◌, ap}
use mathlib.Core.Bool.{Bool, true, false}
use mathlib.Core.List.{List, [], ◌∷◌}
use Prim.Native.Nat.{ℕ, suc, ◌+◌, ◌-◌, ◌^◌, ◌≤◌, ◌<◌}
use native.Mathlib.Numerals.{add-one}
use native.Mathlib.Omega.{arith}
use lib.Dec.{eqb}
use lib.ListN.{length, get_or, take, drop, set, length-set, length-drop, length-append}
use lib.Seq.{drop-cons, drop-drop, take-take, length-take-le}
use mir.Val.{Fits}
use mir.Syntax.{w64}
use borrow.Author.Tests.{eq-eqb, ne_eqb, eqb-true}
use borrow.Author.Rules.{rules}
use Rattle.ground.specs.Choice.{both, either}
use Rattle.ground.specs.Put.{put, between}
use Rattle.ground.proofs.Cases.{cases}
use Rattle.ground.proofs.Parts.{drop_take, between_length}
use Rattle.ground.proofs.PutLaws.{put_nothing, put_one, put_put, put_same, put_before, get_or_put, length_put}
use Rattle.text_places.specs.Places.{last_where, starts}
use Rattle.text_places.proofs.PlaceLaws.{last_inside}
use Rattle.table_pool.specs.Names.{slash, slashed, class_descriptor}
use Rattle.descriptor.specs.Types.{kept_text}
use Rattle.descriptor.specs.Signatures.{is_letter, raw_kept, raw_type, after_close, raw_signature}
use Rattle.table_pool.specs.Inner.Wrote.{Written, WroteBy}
use Rattle.table_pool.proofs.Naming.{slashed_length}
use Rattle.table_pool.proofs.Writes.{wrote_then}
use Rattle.table_pool.specs.declared.write.NoRoom.{NoRoom}

pub ruleset letters = (cases, rules)

-- Whether a raw type is kept.
pub raw_empty : (s : List ℕ) → length s ≡ 0 → false ≡ raw_kept s
raw_empty [] e = refl
raw_empty (x ∷ l) e = absurd (omega arith)

module _ (s : List ℕ) where
  module _ (n : length s ≡ 0 → ⊥) where
    pub raw_bracket : get_or s 0 0 ≡ 0x5B → true ≡ raw_kept s
    raw_bracket h = go s n h
      where
        go : (l : List ℕ) → (length l ≡ 0 → ⊥) → get_or l 0 0 ≡ 0x5B → true ≡ raw_kept l
        go [] m e = absurd (m refl)
        go (x ∷ l) m e = sym (rw (eq-eqb x 0x5B e))

    module _ (o : get_or s 0 0 ≡ 0x5B → ⊥) where
      pub raw_one : length s ≡ 1 → {b : Bool} → b ≡ is_letter (get_or s 0 0) → b ≡ raw_kept s
      raw_one h {b} f = go s o h f
        where
          no_both : (x : ℕ) → both (eqb x 0x4C) (eqb x 0x3B) ≡ false
          no_both x = by (eqb x 0x4C) refl
            where
              by : (t : Bool) → eqb x 0x4C ≡ t → both t (eqb x 0x3B) ≡ false
              by true q = ne_eqb x 0x3B (λ e. let z = eqb-true x 0x4C q in omega arith)
              by false q = refl

          or_false : (t : Bool) → either t false ≡ t
          or_false true = refl
          or_false false = refl

          go : (l : List ℕ) → (get_or l 0 0 ≡ 0x5B → ⊥) → length l ≡ 1 → b ≡ is_letter (get_or l 0 0) → b ≡ raw_kept l
          go [] m e g = absurd (omega arith)
          go (x ∷ []) m e g = g ∙ sym (rw (ne_eqb x 0x5B m, no_both x) (or_false (is_letter x)))
          go (x ∷ (y ∷ l)) m e g = absurd (omega arith)

      pub raw_long : (length s ≡ 1 → ⊥) → {b : Bool} → b ≡ kept_text s → b ≡ raw_kept s
      raw_long h {b} f = go s n o h f
        where
          go : (l : List ℕ) → (length l ≡ 0 → ⊥) → (get_or l 0 0 ≡ 0x5B → ⊥) → (length l ≡ 1 → ⊥) → b ≡ kept_text l → b ≡ raw_kept l
          go [] k m e g = absurd (k refl)
          go (x ∷ []) k m e g = absurd (e refl)
          go (x ∷ (y ∷ l)) k m e g = g ∙ sym (rw (ne_eqb x 0x5B m))

pub ruleset raw_kinds = (raw_empty, raw_bracket, raw_one, raw_long, rules)

-- Moving a name by one: what is from `j` on stands one later, with dots as slashes.
pub record Moving (d : List ℕ) (at «end» : ℕ) (room : List ℕ) (j : ℕ) : Type 0 where
  pub low : at ≤ j
  pub high : j ≤ «end»
  pub is : room ≡ put d (j + 1) (slashed (between d j «end»))
  pub size : length room ≡ length d

part_none : (d : List ℕ) (e : ℕ) → between d e e ≡ []
part_none d e = let z : e - e ≡ 0 = omega arith in rw z

part_cons : (d : List ℕ) (a e : ℕ) → a < e → e ≤ length d → between d a e ≡ get_or d a 0 ∷ between d (a + 1) e
part_cons d a e h i =
    let z : e - a ≡ suc (e - (a + 1)) = omega arith in
    rw (z, drop-cons d a 0 (omega arith), add-one a)

module _ (d : List ℕ) (at «end» : ℕ) (i : at ≤ «end») (h : «end» ≤ length d) where
  name_length : length (class_descriptor (between d at «end»)) ≡ «end» - at + 2
  name_length =
      let a = length-append (slashed (between d at «end»)) (0x3B ∷ []) in
      let b = slashed_length (between d at «end») in
      let c = between_length d at «end» h in
      omega arith

  pub name_no_room : length d - «end» < 2 → length d < at + length (class_descriptor (between d at «end»))
  name_no_room k = omega (arith, name_length)

  module _ (k : 2 ≤ length d - «end») where
    pub moving_starts : Moving d at «end» d «end»
    moving_starts = record { low = i; high = omega arith; is = rw (part_none d «end») (sym (put_nothing d («end» + 1))); size = refl }

    pub name_fits : length d < 2 ^ 64 → Fits w64 («end» + 2)
    name_fits b = omega arith

    pub name_fits_one : length d < 2 ^ 64 → Fits w64 («end» + 1)
    name_fits_one b = omega arith

    module _ {room : List ℕ} {j : ℕ} (w : Moving d at «end» room j) where
      pub moving_write : at < j → j < length room
      moving_write l = omega (arith, w.size, w.high)

      pub moving_read : at < j → j - 1 < length room
      moving_read l = omega (arith, w.size, w.high)

      pub moving_more : at < j → {x : ℕ} → x ≡ slash (get_or room (j - 1) 0) → Moving d at «end» (set room j x) (j - 1)
      moving_more l {x} f =
          let up : j - 1 + 1 ≡ j = omega arith in
          let old : get_or room (j - 1) 0 ≡ get_or d (j - 1) 0 =
          ap (λ r. get_or r (j - 1) 0) w.is ∙ get_or_put d (j + 1) (slashed (between d j «end»)) (j - 1) 0 (omega arith) (omega (arith, w.high)) in
          let next : between d (j - 1) «end» ≡ get_or d (j - 1) 0 ∷ between d j «end» = part_cons d (j - 1) «end» (omega (arith, w.high)) h ∙ ap (λ n. get_or d (j - 1) 0 ∷ between d n «end») up in
          record {
            low = omega arith;
            high = omega (arith, w.high);
            is =
                ap (λ r. set r j x) w.is ∙ put_before d j (slashed (between d j «end»)) x 0 (omega (arith, w.high))
                ∙ ap (λ y. put d j (y ∷ slashed (between d j «end»))) (f ∙ ap slash old) ∙ ap (λ n. put d n (slash (get_or d (j - 1) 0) ∷ slashed (between d j «end»))) (sym up)
                ∙ ap (λ n. put d (j - 1 + 1) (slashed n)) (sym next);
            size = length-set room j x ∙ w.size;
          }

      pub name_at_lem : j ≤ at → at < length room
      name_at_lem l = omega (arith, w.size)

      pub name_end : j ≤ at → «end» + 1 < length (set room at 0x4C)
      name_end l = omega (arith, w.size, length-set room at 0x4C)

      pub name_done : j ≤ at → Written («end» + 2) d at (class_descriptor (between d at «end»)) (set (set room at 0x4C) («end» + 1) 0x3B)
      name_done l =
          let here : j ≡ at = omega (arith, w.low) in
          let n : List ℕ = slashed (between d at «end») in
          let size_n : length n ≡ «end» - at = slashed_length (between d at «end») ∙ between_length d at «end» h in
          let first : set room at 0x4C ≡ put d at (0x4C ∷ n) =
          ap (λ r. set r at 0x4C) (w.is ∙ ap (λ m. put d (m + 1) (slashed (between d m «end»))) here) ∙ put_before d at n 0x4C 0 (omega arith) in
          let place : at + length (0x4C ∷ n) ≡ «end» + 1 = omega arith in
          let long : at + length (0x4C ∷ n) ≤ length d = omega arith in
          let whole_size = length_put d at (0x4C ∷ n) long in
          record {
            past = omega (arith, name_length);
            room = omega (arith, name_length);
            is =
                ap (λ r. set r («end» + 1) 0x3B) first ∙ sym (put_one (put d at (0x4C ∷ n)) («end» + 1) 0x3B (omega arith))
                ∙ ap (λ m. put (put d at (0x4C ∷ n)) m (0x3B ∷ [])) (sym place) ∙ put_put d at (0x4C ∷ n) (0x3B ∷ []) long;
          }

pub ruleset moving = (name_no_room, moving_starts, name_fits, name_fits_one, moving_write, moving_read, moving_more, name_at_lem, name_end, name_done, rules)

-- Types and signatures.
module _ (d : List ℕ) (at «end» : ℕ) (i : at ≤ «end») (h : «end» ≤ length d) where
  -- what is kept is written already
  kept_written : Written «end» d at (between d at «end») d
  kept_written =
      let n = between_length d at «end» h in
      record { past = omega arith; room = omega arith; is = sym (put_same d at («end» - at) (omega arith)) }

  module _ {b : Bool} (k : b ≡ raw_kept (between d at «end»)) where
    pub type_kept : b ≡ true → Written «end» d at (raw_type (between d at «end»)) d
    type_kept t = let e : raw_type (between d at «end») ≡ between d at «end» = rw (← k, t) in rw e kept_written

    pub type_named : b ≡ false → (r : Result ℕ NoRoom) (d₁ : List ℕ) → WroteBy r d at (class_descriptor (between d at «end»)) d₁ → WroteBy r d at (raw_type (between d at «end»)) d₁
    type_named t r d₁ w = let e : raw_type (between d at «end») ≡ class_descriptor (between d at «end») = rw (← k, t) in rw e w

  pub signature_field : {m : Bool} → m ≡ false → (r : Result ℕ NoRoom) (d₁ : List ℕ) → WroteBy r d at (raw_type (between d at «end»)) d₁ → WroteBy r d at (raw_signature m (between d at «end»)) d₁
  signature_field e r d₁ w = rw e w

  module _ {m : Bool} (e : m ≡ true) {p : Option ℕ} (f : p ≡ last_where (starts 0x29) (between d at «end»)) where
    whole : {x : Option ℕ} → p ≡ x → raw_signature m (between d at «end») ≡ after_close (between d at «end») x
    whole g = rw e (ap (after_close (between d at «end»)) (sym f ∙ g))

    pub signature_open : p ≡ None → Written «end» d at (raw_signature m (between d at «end»)) d
    signature_open g = rw (whole g) kept_written

    module _ {close : ℕ} (g : p ≡ Some close) where
      pub signature_after : at + close + 1 ≤ «end»
      signature_after = let n = between_length d at «end» h in let j = last_inside (starts 0x29) (between d at «end») (sym f ∙ g) in omega arith

      pub signature_fits : length d < 2 ^ 64 → Fits w64 (at + close + 1)
      signature_fits z = let j = signature_after in omega arith

      pub signature_fits_close : length d < 2 ^ 64 → Fits w64 (at + close)
      signature_fits_close z = let j = signature_after in omega arith

      -- the arguments stay, and what follows is a type
      pub signature_method : (r : Result ℕ NoRoom) (d₁ : List ℕ) → WroteBy r d (at + close + 1) (raw_type (between d (at + close + 1) «end»)) d₁ → WroteBy r d at (raw_signature m (between d at «end»)) d₁
      signature_method r d₁ w =
          let j = signature_after in
          let front : take (close + 1) (between d at «end») ≡ take (close + 1) (drop at d) = take-take (close + 1) («end» - at) (drop at d) (omega arith) in
          let n : length (take (close + 1) (drop at d)) ≡ close + 1 = length-take-le (close + 1) (drop at d) (omega (arith, length-drop at d)) in
          let kept : Written (at + close + 1) d at (take (close + 1) (between d at «end»)) d =
          rw front (record { past = omega arith; room = omega arith; is = sym (put_same d at (close + 1) (omega arith)) }) in
          let back : drop (close + 1) (between d at «end») ≡ between d (at + close + 1) «end» = drop_part close in
          rw (whole g, back) (wrote_then r (raw_type (between d (at + close + 1) «end»)) d₁ kept w)
        where
          drop_part : (c : ℕ) → drop (c + 1) (between d at «end») ≡ between d (at + c + 1) «end»
          drop_part c =
              let a : «end» - at - (c + 1) ≡ «end» - (at + c + 1) = omega arith in
              let b : at + (c + 1) ≡ at + c + 1 = omega arith in
              drop_take (c + 1) («end» - at) (drop at d) ∙ rw (a, drop-drop (c + 1) at d, b)

pub ruleset settling = (type_kept, type_named, signature_field, signature_open, signature_after, signature_fits, signature_fits_close, signature_method, rules)
