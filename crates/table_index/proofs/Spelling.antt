-- A text against what a name stands for. Assumes nothing.
use mathlib.Core.Path.{◌≡◌, refl, sym, ◌∙◌, ap}
use mathlib.Core.Bool.{Bool, true, false}
use mathlib.Core.List.{List, [], ◌∷◌}
use mathlib.Core.Logic.{◌⊎◌, inl, inr}
use Prim.Native.Nat.{ℕ, zero, suc, ◌+◌, ◌-◌, ◌^◌, ◌≤◌, ◌<◌}
use native.Mathlib.Omega.{arith}
use lib.Dec.{leb}
use lib.ListN.{length, get_or, length-append, get_or-append}
use lib.Seq.{get_or_at, ext_get_or}
use mir.Val.{Fits}
use mir.Syntax.{w64}
use borrow.Author.Tests.{le-leb, lt-leb, leb-true, leb-false}
use borrow.Author.Rules.{rules}
use Rattle.ground.proofs.Cases.{le_or_lt}
use Rattle.text_places.specs.Places.{same}
use Rattle.text_places.proofs.PlaceLaws.{matching_uneven, unlike_at, same_refl}
use Rattle.table_pool.specs.Inner.Named.{slash_if, name_bytes, class_piece}
use Rattle.table_pool.proofs.Naming.{name_length, name_byte}
use Rattle.table_index.specs.declared.forms.NameForm.{NameForm}
use Rattle.table_index.specs.declared.forms.NameForm.TheVariants.{Whole, Piece}
use Rattle.table_index.specs.Inner.Order.{compared, Weighing, AlikeTo}
use Rattle.table_index.specs.Inner.Forms.{spelled}
use Rattle.table_index.proofs.Comparing.{weighing_starts, weighing_past, weighing_same, weighing_short, weighing_long}
use Rattle.table_index.proofs.Comparing.{weighing_less, weighing_more, weighing_next}
use Rattle.std.specs.declared.cmp.Ordering.{Ordering}
use Rattle.std.specs.declared.cmp.Ordering.TheVariants.{Less, Equal, Greater}

-- The bytes of a piece.
module _ (dots : Bool) (name : List ℕ) where
  piece_length : length (class_piece dots name) ≡ length name + 2
  piece_length =
      let a = length-append (name_bytes dots name) (0x3B ∷ []) in
      let b = name_length dots name in
      omega arith

  inner_byte : (j : ℕ) → j < length name → get_or (class_piece dots name) (suc j) 0 ≡ slash_if dots (get_or name j 0)
  inner_byte j h =
      get_or-append (name_bytes dots name) (0x3B ∷ []) 0 j (let b = name_length dots name in omega arith)
      ∙ name_byte dots name j

  last_byte : get_or (class_piece dots name) (suc (length name)) 0 ≡ 0x3B
  last_byte = get_or_at (name_bytes dots name) 0x3B [] 0 (length name) (name_length dots name)

  pub byte_first : {i : ℕ} → i ≡ 0 → 0x4C ≡ get_or (class_piece dots name) i 0
  byte_first e = rw e

  module _ {i : ℕ} (n : i ≡ 0 → ⊥) where
    up : suc (i - 1) ≡ i
    up = omega arith

    pub byte_inner : i - 1 < length name → {x : ℕ} → x ≡ slash_if dots (get_or name (i - 1) 0) →
        x ≡ get_or (class_piece dots name) i 0
    byte_inner h e = e ∙ sym (inner_byte (i - 1) h) ∙ ap (λ j. get_or (class_piece dots name) j 0) up

    pub byte_last : length name ≤ i - 1 → i < length name + 2 → 0x3B ≡ get_or (class_piece dots name) i 0
    byte_last h l =
        let z : suc (length name) ≡ i = omega arith in
        sym last_byte ∙ ap (λ j. get_or (class_piece dots name) j 0) z

pub ruleset bytes = (byte_first, byte_inner, byte_last, rules)

pub ends_low : (name : List ℕ) {i : ℕ} → i < 2 → false ≡ leb (length name + 2) i
ends_low name {i} h = sym (lt-leb (length name + 2) i (omega arith))

pub ends_told : (name : List ℕ) {i : ℕ} → 2 ≤ i → leb (length name) (i - 2) ≡ leb (length name + 2) i
ends_told name {i} h = go (leb (length name) (i - 2)) refl
  where
    go : (b : Bool) → leb (length name) (i - 2) ≡ b → b ≡ leb (length name + 2) i
    go true e = let l = leb-true (length name) (i - 2) e in sym (le-leb (length name + 2) i (omega arith))
    go false e = let l = leb-false (length name) (i - 2) e in sym (lt-leb (length name + 2) i (omega arith))

pub ruleset ending = (ends_low, ends_told, rules)

-- A text and a piece that are alike up to a place.
module _ (text name : List ℕ) (dots : Bool) where
  pub alike_none : Weighing text (class_piece dots name) 0
  alike_none = weighing_starts text (class_piece dots name)

  module _ {past : ℕ} (x : AlikeTo text 1 name dots past) where
    pub alike_fits : length text < 2 ^ 64 → Fits w64 (past + 1)
    alike_fits f = let t = x.in_text in omega arith

    pub alike_past : get_or text 0 0 ≡ 0x4C → Weighing text (class_piece dots name) (past + 1)
    alike_past f =
        let t = x.in_text in
        let n = x.in_name in
        let p = piece_length dots name in
        weighing_past text (class_piece dots name) (past + 1) (omega arith) (omega arith) (λ j h. go j h)
      where
        go : (j : ℕ) → j < past + 1 → get_or text j 0 ≡ get_or (class_piece dots name) j 0
        go zero h = f
        go (suc j) h =
            let n = x.in_name in
            let up : suc j ≡ 1 + j = omega arith in
            ap (λ i. get_or text i 0) up ∙ x.each j (omega arith) ∙ sym (inner_byte dots name j (omega arith))

pub ruleset past_alike = (alike_none, alike_fits, alike_past, rules)

-- A text compared with a piece.
module _ (name : List ℕ) (dots : Bool) {a : List ℕ} {i : ℕ} (k : Weighing a (class_piece dots name) i)
    {z : Bool} (e : z ≡ leb (length name + 2) i) where
  ended : z ≡ true → length (class_piece dots name) ≤ i
  ended t = let p = piece_length dots name in let l = leb-true (length name + 2) i (sym e ∙ t) in omega arith

  going : z ≡ false → i < length (class_piece dots name)
  going t = let p = piece_length dots name in let l = leb-false (length name + 2) i (sym e ∙ t) in omega arith

  pub piece_same : length a ≤ i → z ≡ true → Equal ≡ compared a (class_piece dots name)
  piece_same h t = weighing_same k h (ended t)

  pub piece_short : length a ≤ i → z ≡ false → Less ≡ compared a (class_piece dots name)
  piece_short h t = weighing_short k h (going t)

  module _ (h : i < length a) where
    pub piece_long : z ≡ true → Greater ≡ compared a (class_piece dots name)
    piece_long t = weighing_long k h (ended t)

    module _ (t : z ≡ false) {x : ℕ} (f : x ≡ get_or (class_piece dots name) i 0) where
      pub piece_less : get_or a i 0 < x → Less ≡ compared a (class_piece dots name)
      piece_less l = weighing_less k h (going t) (omega arith)

      pub piece_more : x < get_or a i 0 → Greater ≡ compared a (class_piece dots name)
      piece_more l = weighing_more k h (going t) (omega arith)

      pub piece_next : x ≤ get_or a i 0 → get_or a i 0 ≤ x → Weighing a (class_piece dots name) (i + 1)
      piece_next l m = weighing_next k h (going t) (omega arith) (omega arith)

pub piece_byte_inside : (name : List ℕ) {i : ℕ} {z : Bool} → z ≡ leb (length name + 2) i → z ≡ false → i < length name + 2
piece_byte_inside name {i} e t = leb-false (length name + 2) i (sym e ∙ t)

pub ruleset piecing =
    (piece_same, piece_short, piece_long, piece_less, piece_more, piece_next, piece_byte_inside, rules)

module _ (a name : List ℕ) {form : NameForm} {o : Ordering} where
  pub named_whole : form ≡ Whole → o ≡ compared a name → o ≡ compared a (spelled form name)
  named_whole e f = f ∙ ap (λ s. compared a (spelled s name)) (sym e)

  pub named_piece : {dots : Bool} → form ≡ Piece dots → o ≡ compared a (class_piece dots name) →
      o ≡ compared a (spelled form name)
  named_piece e f = f ∙ ap (λ s. compared a (spelled s name)) (sym e)

pub ruleset naming = (named_whole, named_piece, rules)

module _ (text name : List ℕ) (dots : Bool) where
  pub is_short : length text < 2 → false ≡ same text (class_piece dots name)
  is_short h = matching_uneven text (class_piece dots name) (λ e. let b = piece_length dots name in omega arith)

  module _ (two : 2 ≤ length text) where
    pub is_uneven : (length text - 2 ≡ length name → ⊥) → false ≡ same text (class_piece dots name)
    is_uneven n = matching_uneven text (class_piece dots name) (λ e. n (let b = piece_length dots name in omega arith))

    module _ (e : length text - 2 ≡ length name) where
      pub last_fits : length text < 2 ^ 64 → Fits w64 (length name + 1)
      last_fits b = omega arith

      pub one_inside : 1 ≤ length text
      one_inside = omega arith

      pub first_inside : 0 < length text
      first_inside = omega arith

      pub last_inside : length name + 1 < length text
      last_inside = omega arith

      module _ {k : ℕ} (a : AlikeTo text 1 name dots k) where
        pub alike_place : k < length name → 1 + k < length text
        alike_place h = omega arith

        pub alike_place_fits : k < length name → length text < 2 ^ 64 → Fits w64 (1 + k)
        alike_place_fits h b = omega arith

        module _ (h : k < length name) {x : ℕ} (f : x ≡ slash_if dots (get_or name k 0)) where
          pub alike_differs : (get_or text (1 + k) 0 ≡ x → ⊥) → false ≡ same text (class_piece dots name)
          alike_differs n =
              let up : 1 + k ≡ suc k = omega arith in
              let here : get_or (class_piece dots name) (1 + k) 0 ≡ x =
              ap (λ j. get_or (class_piece dots name) j 0) up ∙ inner_byte dots name k h ∙ sym f in
              unlike_at text (class_piece dots name) (1 + k) (λ g. n (g ∙ here))

          pub alike_more : get_or text (1 + k) 0 ≡ x → AlikeTo text 1 name dots (k + 1)
          alike_more g = record { in_text = omega arith; in_name = omega arith; each = λ j l. go j l (le_or_lt k j) }
            where
              go : (j : ℕ) → j < k + 1 → (k ≤ j) ⊎ (j < k) → get_or text (1 + j) 0 ≡ slash_if dots (get_or name j 0)
              go j l (inl q) = let z : j ≡ k = omega arith in rw z (g ∙ f)
              go j l (inr q) = a.each j q

        module _ (z : length name ≤ k) where
          pub other_letter : (get_or text 0 0 ≡ 0x4C → ⊥) → false ≡ same text (class_piece dots name)
          other_letter n = unlike_at text (class_piece dots name) 0 n

          last_is : get_or (class_piece dots name) (length name + 1) 0 ≡ 0x3B
          last_is = let up : length name + 1 ≡ suc (length name) = omega arith in rw up (last_byte dots name)

          pub other_end : (get_or text (length name + 1) 0 ≡ 0x3B → ⊥) → false ≡ same text (class_piece dots name)
          other_end n = unlike_at text (class_piece dots name) (length name + 1) (λ g. n (g ∙ last_is))

          pub is_same : get_or text 0 0 ≡ 0x4C → get_or text (length name + 1) 0 ≡ 0x3B → true ≡ same text (class_piece dots name)
          is_same f l = sym (ap (λ t. same t (class_piece dots name)) equal ∙ same_refl (class_piece dots name))
            where
              by_place : (j : ℕ) → j < length text → get_or text j 0 ≡ get_or (class_piece dots name) j 0
              by_place zero h = f
              by_place (suc j) h = go (le_or_lt (length name) j)
                where
                  go : (length name ≤ j) ⊎ (j < length name) → get_or text (suc j) 0 ≡ get_or (class_piece dots name) (suc j) 0
                  go (inl m) =
                      let here : suc j ≡ length name + 1 = omega arith in
                      ap (λ i. get_or text i 0) here ∙ l ∙ sym (ap (λ i. get_or (class_piece dots name) i 0) here ∙ last_is)
                  go (inr m) =
                      let up : suc j ≡ 1 + j = omega arith in
                      ap (λ i. get_or text i 0) up ∙ a.each j (omega arith) ∙ sym (inner_byte dots name j m)

              equal : text ≡ class_piece dots name
              equal =
                  ext_get_or 0 text (class_piece dots name) (let m = piece_length dots name in omega arith)
                  (λ j h. by_place j h)

pub ruleset sameness = (
  is_short,
  is_uneven,
  last_fits,
  one_inside,
  first_inside,
  last_inside,
  alike_place,
  alike_place_fits,
  alike_differs,
  alike_more,
  other_letter,
  other_end,
  is_same,
  rules,
)

module _ (a name : List ℕ) {form : NameForm} {b : Bool} where
  pub same_whole : form ≡ Whole → b ≡ same a name → b ≡ same a (spelled form name)
  same_whole e f = f ∙ ap (λ s. same a (spelled s name)) (sym e)

  pub same_piece : {dots : Bool} → form ≡ Piece dots → b ≡ same a (class_piece dots name) → b ≡ same a (spelled form name)
  same_piece e f = f ∙ ap (λ s. same a (spelled s name)) (sym e)

pub ruleset same_naming = (same_whole, same_piece, rules)
