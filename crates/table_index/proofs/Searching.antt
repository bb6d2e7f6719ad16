-- The last row of a shelf that has a text is the last of all, or no row has it. Assumes nothing.
use Rattle.std.specs.Prelude.{Option, Some, None}
use mathlib.Core.Path.{◌≡◌, refl, sym, ◌∙◌, ap}
use mathlib.Core.Bool.{Bool, true, false}
use mathlib.Core.List.{List, []}
use mathlib.Core.Logic.{◌⊎◌, inl, inr}
use Prim.Native.Nat.{ℕ, ◌+◌, ◌-◌, ◌≤◌, ◌<◌}
use native.Mathlib.Omega.{arith}
use lib.ListN.{length, get_or}
use mir.Val.{Fits}
use mir.Syntax.{w64}
use borrow.Author.Rules.{rules}
use Rattle.ground.specs.Choice.{pick}
use Rattle.ground.proofs.Cases.{le_or_lt, clash}
use Rattle.text_places.specs.Places.{same}
use Rattle.text_places.proofs.PlaceLaws.{same_equal, same_refl}
use Rattle.table_rows.specs.Rows.{most_classes}
use Rattle.tables.specs.declared.search.Side.{Side}
use Rattle.tables.specs.Search.{has_name, last_with}
use Rattle.tables.proofs.Searching.{Scanning, scanning_from, scanning_starts, scanning_ends, scanning_inside, scanning_found}
use Rattle.tables.proofs.Searching.{scanning_more}
use Rattle.table_index.specs.Inner.Order.{at_most}
use Rattle.table_index.specs.Inner.Marks.{mark_count, mark_of, marks_of}
use Rattle.table_index.specs.Inner.Keys.{keys_of}
use Rattle.table_index.specs.Inner.Heads.{first_with, head_of}
use Rattle.table_index.specs.Inner.Shelves.{key_at, Ranked, Seat, Shelf, Bound, LastSeat, LastOn}
use Rattle.table_index.specs.Inner.Index.{marks_at, index_size, ShelfAt, ShelvedClasses, IndexBy}
use Rattle.table_index.proofs.Comparing.{Way, less, even, more, way, most_refl, most_equal}
use Rattle.table_index.proofs.Marking.{mark_below, mark_is}
use Rattle.table_index.proofs.Keys.{key_is}
use Rattle.table_index.proofs.Heads.{first_inside, head_told}

-- One row.
module _ {t s : List ℕ} (e : t ≡ s) (name : List ℕ) {b : Bool} (f : b ≡ same t name) (row : ℕ) where
  pub row_named : b ≡ true → Some row ≡ pick (same s name) (Some row) None
  row_named g = ap (λ z. pick z (Some row) None) (sym (ap (λ x. same x name) (sym e) ∙ sym f ∙ g))

  pub row_other : b ≡ false → None ≡ pick (same s name) (Some row) None
  row_other g = ap (λ z. pick z (Some row) None) (sym (ap (λ x. same x name) (sym e) ∙ sym f ∙ g))

pub ruleset one_row = (row_named, row_other, rules)

-- The rule by places: no row, and a row behind which there is none.
module _ (side : Side) (rows : List (List ℕ)) (pool name : List ℕ) where
  row_has : (i : ℕ) → has_name side pool name (get_or rows i []) ≡ same (get_or (keys_of side rows pool) i []) name
  row_has i = ap (λ s. same s name) (sym (key_is side rows pool i))

  -- a row that cannot have the name
  refuted : (i : ℕ) → (get_or (keys_of side rows pool) i [] ≡ name → ⊥) → has_name side pool name (get_or rows i []) ≡ false
  refuted i n = row_has i ∙ go (same (get_or (keys_of side rows pool) i []) name) refl
    where
      go : (b : Bool) → same (get_or (keys_of side rows pool) i []) name ≡ b → b ≡ false
      go false e = refl
      go true e = absurd (n (same_equal (get_or (keys_of side rows pool) i []) name e))

  none_at_all : ((i : ℕ) → i < length rows → get_or (keys_of side rows pool) i [] ≡ name → ⊥) →
      None ≡ last_with side rows pool name
  none_at_all n =
      scanning_ends (scanning_from (has_name side pool name) rows 0 (omega arith) (λ i h l. refuted i (n i l))) (omega arith)

  last_one : (r : ℕ) → r < length rows → get_or (keys_of side rows pool) r [] ≡ name →
      ((i : ℕ) → r < i → i < length rows → get_or (keys_of side rows pool) i [] ≡ name → ⊥) →
      Some r ≡ last_with side rows pool name
  last_one r h e n =
      let z : r + 1 - 1 ≡ r = omega arith in
      let k : Scanning (has_name side pool name) rows (r + 1) =
      scanning_from (has_name side pool name) rows (r + 1) (omega arith) (λ i l m. refuted i (n i (omega arith) m)) in
      let here : has_name side pool name (get_or rows (r + 1 - 1) []) ≡ true =
      rw z (row_has r ∙ ap (λ s. same s name) e ∙ same_refl name) in
      rw z at (scanning_found k (omega arith) here)

-- All rows, from the last one on.
pub scanned_row : (side : Side) (rows : List (List ℕ)) (pool name : List ℕ) (i : ℕ) {t : List ℕ} →
    t ≡ get_or (keys_of side rows pool) i [] →
    {b : Bool} → b ≡ same t name → {z : Bool} → b ≡ z → has_name side pool name (get_or rows i []) ≡ z
scanned_row side rows pool name i e f g = row_has side rows pool name i ∙ ap (λ s. same s name) (sym e) ∙ sym f ∙ g

pub ruleset scanning_all =
    (scanned_row, scanning_starts, scanning_ends, scanning_inside, scanning_found, scanning_more, rules)

-- The last row of a shelf.
module _ {keys : List (List ℕ)} {order : List ℕ} {n a b : ℕ} (r : Ranked keys order n a b) (t : List ℕ) where
  -- the row at the place `p` is asked, and where it has another text no row has it
  module _ (p : ℕ) (c : a ≤ p) (l : p < b) (later : (i : ℕ) → p < i → i < b → key_at keys order i ≡ t → ⊥)
      {row : ℕ} (w : row ≡ get_or order p 0)
      (none : (get_or keys row [] ≡ t → ⊥) → (i : ℕ) → a ≤ i → i < b → key_at keys order i ≡ t → ⊥) where
    asked : (o : Option ℕ) → o ≡ pick (same (get_or keys row []) t) (Some row) None → LastOn o keys order a b t
    asked o y = rw y (go (same (get_or keys row []) t) refl)
      where
        go : (z : Bool) → same (get_or keys row []) t ≡ z → LastOn (pick z (Some row) None) keys order a b t
        go true f = record {
          place = p;
          after = c;
          before = l;
          here = sym w;
          has = same_equal (get_or keys row []) t f;
          later = later;
        }
        go false f = none (λ q. clash (ap (λ s. same s t) q ∙ same_refl t) f)

  module _ {p : ℕ} (g : Bound keys order a b t p) where
    -- a row with the text stands before the bound
    not_above : (i : ℕ) → p ≤ i → i < b → key_at keys order i ≡ t → ⊥
    not_above i h l f = clash (ap (λ y. at_most y t) f ∙ most_refl t) (g.above i h l)

    pub none_before : p ≡ a → (i : ℕ) → a ≤ i → i < b → key_at keys order i ≡ t → ⊥
    none_before q i h l f = not_above i (omega arith) l f

    module _ (some : p ≡ a → ⊥) where
      pub last_sub : 1 ≤ p
      last_sub = let o = g.after in omega arith

      pub last_place : p - 1 < length order
      last_place = let o = g.before in let z = r.room in let q = g.after in omega arith

      module _ {row : ℕ} (w : row ≡ get_or order (p - 1) 0) where
        pub last_row : row < n
        last_row =
            let q = g.after in
            let o = g.before in
            let z = r.only (p - 1) (omega arith) (omega arith) in
            omega arith

        here : key_at keys order (p - 1) ≡ get_or keys row []
        here = ap (λ j. get_or keys j []) (sym w)

        -- the row at the place stands at or before the text, and behind any row that has it
        nowhere : (get_or keys row [] ≡ t → ⊥) → (i : ℕ) → a ≤ i → i < b → key_at keys order i ≡ t → ⊥
        nowhere m i h l f = go (le_or_lt p i) (le_or_lt (p - 1) i)
          where
            go : (p ≤ i) ⊎ (i < p) → (p - 1 ≤ i) ⊎ (i < p - 1) → ⊥
            go (inl o) q = not_above i o l f
            go (inr o) (inl q) =
                let y : i ≡ p - 1 = omega arith in
                m (sym here ∙ ap (λ j. key_at keys order j) (sym y) ∙ f)
            go (inr o) (inr q) =
                let c = g.before in
                let up : at_most t (key_at keys order (p - 1)) ≡ true =
                ap (λ y. at_most y (key_at keys order (p - 1))) (sym f) ∙ r.sorted i (p - 1) h q (omega arith) in
                m (sym here ∙ most_equal (key_at keys order (p - 1)) t (g.below (p - 1) (omega arith) (omega arith)) up)

        pub last_last : (o : Option ℕ) → o ≡ pick (same (get_or keys row []) t) (Some row) None → LastOn o keys order a b t
        last_last =
            let q = g.after in
            let o = g.before in
            asked (p - 1) (omega arith) (omega arith) (λ i h l f. not_above i (omega arith) l f) w nowhere

pub ranked_goes : {keys : List (List ℕ)} {order : List ℕ} {n a b : ℕ} → Ranked keys order n a b → a ≤ b
ranked_goes r = r.goes

-- Row by row, from the last one on: none from the place `p` on has the text.
pub record Trying (keys : List (List ℕ)) (order : List ℕ) (a b : ℕ) (t : List ℕ) (p : ℕ) : Type 0 where
  pub after : a ≤ p
  pub before : p ≤ b
  pub none : (i : ℕ) → p ≤ i → i < b → key_at keys order i ≡ t → ⊥

pub trying_starts : (t : List ℕ) {keys : List (List ℕ)} {order : List ℕ} {n a b : ℕ} → Ranked keys order n a b →
    Trying keys order a b t b
trying_starts t r = record { after = r.goes; before = omega arith; none = λ i h l f. omega arith }

module _ {keys : List (List ℕ)} {order : List ℕ} {a b : ℕ} {t : List ℕ} {p : ℕ} (x : Trying keys order a b t p) where
  pub trying_ends : p ≤ a → (i : ℕ) → a ≤ i → i < b → key_at keys order i ≡ t → ⊥
  trying_ends h i l m f = x.none i (omega arith) m f

  module _ {n : ℕ} (r : Ranked keys order n a b) (h : a < p) where
    pub trying_read : p - 1 < length order
    trying_read = let c = x.before in let z = r.room in omega arith

    module _ {row : ℕ} (w : row ≡ get_or order (p - 1) 0) where
      pub trying_row : row < n
      trying_row = let c = x.before in let z = r.only (p - 1) (omega arith) (omega arith) in omega arith

      module _ {s : List ℕ} (e : s ≡ get_or keys row []) {z : Bool} (f : z ≡ same s t) where
        decided : {y : Bool} → z ≡ y → same (get_or keys row []) t ≡ y
        decided g = ap (λ l. same l t) (sym e) ∙ sym f ∙ g

        pub trying_found : z ≡ true → LastSeat keys order a b t row
        trying_found g = record {
          place = p - 1;
          after = omega arith;
          before = let c = x.before in omega arith;
          here = sym w;
          has = same_equal (get_or keys row []) t (decided g);
          later = λ i l m. x.none i (omega arith) m;
        }

        pub trying_more : z ≡ false → Trying keys order a b t (p - 1)
        trying_more g = record {
          after = omega arith;
          before = let c = x.before in omega arith;
          none = λ i l m o. go i m o (le_or_lt p i) l;
        }
          where
            go : (i : ℕ) → i < b → key_at keys order i ≡ t → (p ≤ i) ⊎ (i < p) → p - 1 ≤ i → ⊥
            go i m o (inl q) l = x.none i q m o
            go i m o (inr q) l =
                let y : i ≡ p - 1 = omega arith in
                let k : get_or keys row [] ≡ t = ap (λ j. get_or keys j []) (w ∙ ap (λ j. get_or order j 0) (sym y)) ∙ o in
                clash (ap (λ j. same j t) k ∙ same_refl t) (decided g)

pub ruleset trying =
    (trying_starts, trying_ends, trying_read, trying_row, trying_found, trying_more, rules)

pub ruleset last_of_shelf =
    (ranked_goes, none_before, last_sub, last_place, last_row, last_last, rules)

-- The last row of all.
module _ {side : Side} {rows : List (List ℕ)} {pool index : List ℕ} (found : IndexBy side rows pool index)
    (size : length index ≡ index_size) (name : List ℕ) {mark : ℕ} (e : mark ≡ mark_of name) where
  x : ShelvedClasses side rows pool index (length rows)
  x = found.shelved size

  abbrev keys : List (List ℕ)
  keys = keys_of side rows pool

  abbrev ms : List ℕ
  ms = marks_of (keys_of side rows pool)

  below : mark < mark_count
  below = let b = mark_below name in omega arith

  pub mark_place : marks_at + mark < length index
  mark_place = let b = below in let s = size in omega arith

  pub mark_place_fits : Fits w64 (marks_at + mark)
  mark_place_fits = let b = below in omega arith

  module _ {first : ℕ} (d : first ≡ get_or index (marks_at + mark) 0) where
    -- a row with the name says what the table has for its mark
    told : (i : ℕ) → i < length rows → get_or keys i [] ≡ name → first ≡ head_of ms i + 1
    told i h f =
        let m : get_or ms i 0 ≡ mark = mark_is keys i ∙ ap mark_of f ∙ sym e in
        d ∙ x.firsts mark below ∙ ap (λ y. first_with ms y (length rows)) (sym m) ∙ head_told ms (length rows) i h

    pub search_none : first ≡ 0 → None ≡ last_with side rows pool name
    search_none z = none_at_all side rows pool name (λ i h f. let t = told i h f in omega arith)

    module _ (z : first ≡ 0 → ⊥) where
      pub head_sub : 1 ≤ first
      head_sub = omega arith

      small : first - 1 < length rows
      small =
          let q : first ≡ first_with ms mark (length rows) = d ∙ x.firsts mark below in
          let i = first_inside ms mark (length rows) in
          omega arith

      pub head_few : first - 1 < most_classes
      head_few = let w = x.few in let i = small in omega arith

      module _ {a b : ℕ} (u : ShelfAt index (first - 1) a b) where
        shelf : Shelf keys ms index (length rows) (first - 1) a b
        shelf = rw (u.starts ∙ x.starts (first - 1) small, u.ends ∙ x.ends (first - 1) small) (x.shelves (first - 1) small)

        pub search_ranked : Ranked (keys_of side rows pool) index (length rows) a b
        search_ranked = shelf.ranked

        -- a row with the name stands on the shelf
        seat : (i : ℕ) → i < length rows → get_or keys i [] ≡ name → Seat index a b i
        seat i h f = shelf.all i h (let t = told i h f in omega arith)

        -- the last there is the last of all
        module _ {row : ℕ} (o : LastSeat keys index a b name row) where
          no_later : (i : ℕ) → row < i → (t : Seat index a b i) → get_or keys i [] ≡ name → Way t.place o.place → ⊥
          no_later i h t f (less q) =
              let k : key_at keys index t.place ≡ name = ap (λ j. get_or keys j []) t.here ∙ f in
              let m : key_at keys index o.place ≡ name = ap (λ j. get_or keys j []) o.here ∙ o.has in
              let y = shelf.ranked.stable t.place o.place t.after q o.before (k ∙ sym m) in
              let v = t.here in
              let w = o.here in
              omega arith
          no_later i h t f (even q) =
              let s : i ≡ row = sym t.here ∙ ap (λ j. get_or index j 0) q ∙ o.here in
              omega arith
          no_later i h t f (more q) = o.later t.place q t.before (ap (λ j. get_or keys j []) t.here ∙ f)

          inside : row < length rows
          inside = let y = shelf.ranked.only o.place o.after o.before in let w = o.here in omega arith

          found_last : Some row ≡ last_with side rows pool name
          found_last =
              last_one side rows pool name row inside o.has
              (λ i h l f. let t = seat i l f in no_later i h t f (way t.place o.place))

        none_last : ((i : ℕ) → a ≤ i → i < b → key_at keys index i ≡ name → ⊥) → None ≡ last_with side rows pool name
        none_last n =
            none_at_all side rows pool name
            (λ i h f. let t = seat i h f in n t.place t.after t.before (ap (λ j. get_or keys j []) t.here ∙ f))

        pub search_last : (r : Option ℕ) → LastOn r (keys_of side rows pool) index a b name → r ≡ last_with side rows pool name
        search_last (Some row) o = found_last o
        search_last None o = none_last o

pub ruleset searching =
    (mark_place, mark_place_fits, search_none, head_sub, head_few, search_ranked, search_last, rules)
