-- The last member row that answers, by the index: rows of another mark do not match. Assumes nothing.
use Rattle.std.specs.Prelude.{Some, None}
use mathlib.Core.Path.{◌≡◌, refl, sym, ◌∙◌, ap}
use mathlib.Core.Bool.{Bool, true, false}
use mathlib.Core.List.{List, []}
use mathlib.Core.Logic.{◌⊎◌, inl, inr}
use Prim.Native.Nat.{ℕ, ◌+◌, ◌*◌, ◌-◌, ◌≤◌, ◌<◌}
use native.Mathlib.Omega.{arith}
use lib.ListN.{length, get_or}
use mir.Val.{Fits}
use mir.Syntax.{w64}
use borrow.Author.Rules.{rules}
use Rattle.ground.specs.Choice.{both}
use Rattle.ground.specs.Look.{Look}
use Rattle.ground.proofs.Cases.{le_or_lt, clash, both_left, both_right}
use Rattle.text_places.specs.Places.{same}
use Rattle.text_places.proofs.PlaceLaws.{same_equal}
use Rattle.table_rows.specs.declared.rows.Member.{Member}
use Rattle.table_rows.specs.Rows.{unpack_class, unpack_member}
use Rattle.tables.specs.Back.{text_in, pair_of, read_back}
use Rattle.tables.proofs.Searching.{scanning_from, scanning_found, scanning_ends}
use Rattle.name_rule.specs.Mappings.{member_back, entry_back}
use Rattle.name_rule.specs.MemberNames.{key, raw_of_row, is_text}
use Rattle.name_rule.specs.MemberRows.{last_member}
use Rattle.name_rule.proofs.Rows.{row_raw, row_beyond}
use Rattle.name_members.specs.declared.rows.Sought.{Sought}
use Rattle.name_members.specs.Inner.Sought.{sought_by, answers_by}
use Rattle.name_index.specs.Inner.Chains.{last_below, member_mark, mark_at, Chained, Behind}
use Rattle.name_index.proofs.Linking.{last_inside, last_above, last_mark, mark_below}

-- a class that has a raw descriptor is there, and has it
class_has : (rows : List (List ℕ)) (pool raw : List ℕ) (i : ℕ) → is_text (raw_of_row (read_back rows pool) i) raw ≡ true →
    text_in pool (unpack_class (get_or rows i [])).raw ≡ raw
class_has rows pool raw i e = go (le_or_lt (length rows) i)
  where
    go : (length rows ≤ i) ⊎ (i < length rows) → text_in pool (unpack_class (get_or rows i [])).raw ≡ raw
    go (inl h) = clash e (rw (row_beyond (pair_of pool) rows i h))
    go (inr h) = same_equal (text_in pool (unpack_class (get_or rows i [])).raw) raw (rw (row_raw (pair_of pool) rows i h) at e)

-- a mark is a place of the table
module _ (owner name descriptor : List ℕ) {mark : ℕ} (m : mark ≡ member_mark owner name descriptor) where
  pub mark_in_index : (classes : List (List ℕ)) (pool : List ℕ) (rows : List (List ℕ)) {index : List ℕ} → Chained classes pool rows index (length rows) → mark < length index
  mark_in_index classes pool rows x = let b = mark_below owner name descriptor in let s = x.size in omega arith

  pub mark_doubled : Fits w64 (mark * 2)
  mark_doubled = let b = mark_below owner name descriptor in omega arith

module _ (classes : List (List ℕ)) (pool : List ℕ) (rows : List (List ℕ)) (t : Sought) (d : Look) (owner name descriptor : List ℕ) where
  abbrev answers : List ℕ → Bool
  answers row = answers_by t d (read_back classes pool) (key owner name descriptor) (entry_back pool row)

  -- a row that answers has the mark of what is looked for
  pub mark_told : (i : ℕ) → answers (get_or rows i []) ≡ true → mark_at classes pool rows i ≡ member_mark owner name descriptor
  mark_told i e =
      let m : Member = unpack_member (get_or rows i []) in
      let k : Bool = is_text (raw_of_row (read_back classes pool) m.class) owner in
      let n : Bool = same (text_in pool m.raw_name) name in
      let s : Bool = same (text_in pool m.descriptor) descriptor in
      let all = both_right (sought_by t d (entry_back pool (get_or rows i [])).kind) (both k (both n s)) e in
      let texts = both_right k (both n s) all in
      let a = class_has classes pool owner m.class (both_left k (both n s) all) in
      let b = same_equal (text_in pool m.raw_name) name (both_left n s texts) in
      let c = same_equal (text_in pool m.descriptor) descriptor (both_right n s texts) in
      rw (a, b, c)

  pub other_mark : (i : ℕ) → (mark_at classes pool rows i ≡ member_mark owner name descriptor → ⊥) → answers (get_or rows i []) ≡ false
  other_mark i n = go (answers (get_or rows i [])) refl
    where
      go : (b : Bool) → answers (get_or rows i []) ≡ b → b ≡ false
      go true f = absurd (n (mark_told i f))
      go false f = refl

  abbrev BehindHere : ℕ → Type 0
  BehindHere count = Behind classes pool rows t d owner name descriptor count

  behind_last : (n : ℕ) {count : ℕ} → count ≡ last_below (mark_at classes pool rows) (member_mark owner name descriptor) n → n ≤ length rows →
      ((i : ℕ) → n ≤ i → i < length rows → answers (get_or rows i []) ≡ false) → BehindHere count
  behind_last n {count} e l above = record {
    inside = let i = last_inside (mark_at classes pool rows) (member_mark owner name descriptor) n in omega arith;
    none = λ i k h. go i k h (le_or_lt n i);
    at_mark = last_mark (mark_at classes pool rows) (member_mark owner name descriptor) n e;
  }
    where
      go : (i : ℕ) → count ≤ i → i < length rows → (n ≤ i) ⊎ (i < n) → answers (get_or rows i []) ≡ false
      go i k h (inl o) = above i o h
      go i k h (inr o) = other_mark i (last_above (mark_at classes pool rows) (member_mark owner name descriptor) n i (omega arith) o)

  module _ {index : List ℕ} (x : Chained classes pool rows index (length rows)) where
    module _ {mark : ℕ} (m : mark ≡ member_mark owner name descriptor) where
      pub behind_starts : {count : ℕ} → count ≡ get_or index mark 0 → BehindHere count
      behind_starts {count} e =
          let b = mark_below owner name descriptor in
          behind_last (length rows) (e ∙ x.starts mark (omega arith) ∙ ap (λ h. last_below (mark_at classes pool rows) h (length rows)) m) (omega arith)
          (λ i k h. absurd (omega arith))

    module _ {count : ℕ} (k : BehindHere count) where
      pub behind_ends : count ≤ 0 → None ≡ last_member (answers_by t d (read_back classes pool) (key owner name descriptor)) rows pool
      behind_ends h = scanning_ends (scanning_from answers rows count k.inside k.none) h

      module _ (l : 0 < count) where
        pub row_inside : count - 1 < length rows
        row_inside = let i = k.inside in omega arith

        pub link_inside : 8192 + (count - 1) < length index
        link_inside = let i = k.inside in let s = x.size in let f = x.few in omega arith

        pub link_fits : Fits w64 (8192 + (count - 1))
        link_fits = let i = k.inside in let f = x.few in omega arith

        pub behind_falls : {next : ℕ} → next ≡ get_or index (8192 + (count - 1)) 0 → next < count
        behind_falls h =
            let i = k.inside in
            let y = last_inside (mark_at classes pool rows) (mark_at classes pool rows (count - 1)) (count - 1) in
            omega (arith, h ∙ x.links (count - 1) (omega arith))

        module _ {m : Member} (e : m ≡ unpack_member (get_or rows (count - 1) [])) {b : Bool}
            (f : b ≡ answers_by t d (read_back classes pool) (key owner name descriptor) (member_back pool m)) where
          here : answers (get_or rows (count - 1) []) ≡ b
          here = ap (λ z. answers_by t d (read_back classes pool) (key owner name descriptor) (member_back pool z)) (sym e) ∙ sym f

          pub behind_found : b ≡ true → Some (count - 1) ≡ last_member (answers_by t d (read_back classes pool) (key owner name descriptor)) rows pool
          behind_found g = scanning_found (scanning_from answers rows count k.inside k.none) l (here ∙ g)

          pub behind_more : b ≡ false → {next : ℕ} → next ≡ get_or index (8192 + (count - 1)) 0 → BehindHere next
          behind_more g h =
              let i = k.inside in
              behind_last (count - 1)
              (h ∙ x.links (count - 1) (omega arith) ∙ ap (λ y. last_below (mark_at classes pool rows) y (count - 1)) (k.at_mark l)) (omega arith)
              (λ j u v. below j u v (le_or_lt count j))
            where
              below : (j : ℕ) → count - 1 ≤ j → j < length rows → (count ≤ j) ⊎ (j < count) → answers (get_or rows j []) ≡ false
              below j u v (inl w) = k.none j w v
              below j u v (inr w) = let z : j ≡ count - 1 = omega arith in ap (λ y. answers (get_or rows y [])) z ∙ here ∙ g

pub ruleset walking = (behind_ends, row_inside, link_inside, link_fits, behind_falls, behind_found, behind_more, rules)
