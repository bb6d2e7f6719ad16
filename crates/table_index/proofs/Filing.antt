-- One row more in the table. Assumes nothing.
use mathlib.Core.Path.{◌≡◌, refl, sym, ◌∙◌, ap}
use mathlib.Core.Bool.{Bool, true, false}
use mathlib.Core.List.{List, []}
use Prim.Native.Nat.{ℕ, ◌+◌, ◌≤◌, ◌<◌}
use native.Mathlib.Numerals.{add-one}
use native.Mathlib.Omega.{arith}
use lib.Dec.{eqb}
use lib.ListN.{length, get_or, set, replicate, length-set, length-replicate}
use lib.Seq.{get_or-set_same, get_or-set_other}
use mir.Val.{Fits}
use mir.Syntax.{w64}
use borrow.Author.Tests.{eqb-true, eqb-false}
use borrow.Author.Rules.{rules}
use Rattle.table_rows.specs.Rows.{most_classes}
use Rattle.tables.specs.declared.search.Side.{Side}
use Rattle.table_index.specs.Inner.Heads.{head_of, count_with, count_below}
use Rattle.table_index.specs.Inner.Shelves.{Ranked, Shelf, Bound, Inserted}
use Rattle.table_index.specs.Inner.Index.{heads_at, starts_at, ends_at, marks_at, index_size, ShelfAt, Filed, Shelved, ShelvedClasses}
use Rattle.table_index.specs.Inner.Index.{IndexBy}
use Rattle.table_index.proofs.Comparing.{Way, less, even, more, way}
use Rattle.table_index.proofs.Heads.{head_inside, count_here, count_other, count_rises, count_room, shelf_inside, shelf_before}
use Rattle.table_index.proofs.Shelving.{shelf_same, shelf_other, shelf_more, ranked_wider}
use Rattle.table_index.proofs.Laying.{grouped_size, grouped_rows, laid_shelved}

module _ {n : ℕ} {keys : List (List ℕ)} {ms index : List ℕ} {k : ℕ} (x : Shelved n keys ms index k) (h : k < n) where
  pub head_place : heads_at + k < length index
  head_place = let w = x.few in let s = x.size in omega arith

  pub head_place_fits : Fits w64 (heads_at + k)
  head_place_fits = let w = x.few in omega arith

  pub row_few : k < most_classes
  row_few = let w = x.few in omega arith

  module _ {f : ℕ} (e : f ≡ get_or index (heads_at + k) 0) where
    own : head_of ms k ≡ f
    own = sym (e ∙ x.heads k h)

    small : f < n
    small = let o = own in let i = head_inside ms k in omega arith

    pub head_few : f < most_classes
    head_few = let w = x.few in let i = small in omega arith

    pub shelf_size : length index ≡ index_size
    shelf_size = x.size

    module _ {a b : ℕ} (c : ShelfAt index f a b) where
      start_is : a ≡ count_below ms f n
      start_is = c.starts ∙ x.starts f small

      end_is : b ≡ count_below ms f n + count_with ms f k
      end_is = c.ends ∙ x.ends f small

      -- the shelf is not full
      room : b < count_below ms f n + count_with ms f n
      room = let i = end_is in let r = count_room ms f k n h own in omega arith

      below : b < n
      below = let r = room in let i = shelf_inside ms f n in omega arith

      own_shelf : Shelf keys ms index k f a b
      own_shelf = rw (start_is, end_is) (x.shelves f small)

      pub shelf_ranked : Ranked keys index n a b
      shelf_ranked = let i = x.inside in ranked_wider (omega arith) own_shelf.ranked

      pub end_few : b < most_classes
      end_few = let r = below in let w = x.few in omega arith

      module _ {p : ℕ} (v : Bound keys index a b (get_or keys k []) p) where
        pub place_inside : p ≤ b
        place_inside = v.before

        module _ {new : List ℕ} (y : Inserted index new p b k) where
          abbrev done : List ℕ
          done = set new (ends_at + f) (b + 1)

          same_size : length done ≡ length index
          same_size = length-set new (ends_at + f) (b + 1) ∙ y.size

          end_place : ends_at + f < length new
          end_place = let z = y.size in let s = x.size in let i = head_few in omega arith

          -- the numbers that no shelf has
          parts : (i : ℕ) → most_classes ≤ i → (i ≡ ends_at + f → ⊥) → get_or done i 0 ≡ get_or index i 0
          parts i l o =
              let r = below in
              let w = x.few in
              get_or-set_other new (ends_at + f) i (b + 1) 0 o ∙ y.rest i (omega arith)

          -- and those that stand on shelves
          rows : (i : ℕ) → i < most_classes → get_or done i 0 ≡ get_or new i 0
          rows i l = get_or-set_other new (ends_at + f) i (b + 1) 0 (λ q. omega arith)

          ends_more : (g : ℕ) → g < n → get_or done (ends_at + g) 0 ≡ count_below ms g n + count_with ms g (k + 1)
          ends_more g l = go (eqb f g) refl
            where
              go : (o : Bool) → eqb f g ≡ o → get_or done (ends_at + g) 0 ≡ count_below ms g n + count_with ms g (k + 1)
              go true q =
                  let z : f ≡ g = eqb-true f g q in
                  let i = end_is in
                  let r = ap (count_with ms f) (add-one k) ∙ count_here ms f k own in
                  rw (← z) (get_or-set_same new (ends_at + f) (b + 1) 0 end_place ∙ omega arith)
              go false q =
                  let z = eqb-false f g q in
                  let r = ap (count_with ms g) (add-one k) ∙ count_other ms g k (λ o. z (sym own ∙ o)) in
                  let i = x.ends g l in
                  let w = x.few in
                  parts (ends_at + g) (omega arith) (λ o. z (omega arith)) ∙ omega arith

          -- the shelf of the row, and any other
          shelf_here : Shelf keys ms done (k + 1) f a (b + 1)
          shelf_here =
              let r = below in
              let w = x.few in
              let s = own_shelf in
              shelf_same (length-set new (ends_at + f) (b + 1)) (λ i l m. rows i (omega arith))
              (shelf_more own_shelf y v (let z = x.size in omega arith))

          shelf_there : (g : ℕ) → g < n → Way f g → (f ≡ g → ⊥) →
              Shelf keys ms done (k + 1) g (count_below ms g n) (count_below ms g n + count_with ms g k)
          shelf_there g l (less o) z =
              let r = room in
              let q = shelf_before ms f g n o in
              let j = x.inside in
              let i = count_rises ms g k n (omega arith) in
              let s = shelf_inside ms g n in
              let w = x.few in
              shelf_same same_size
              (λ m u v. rows m (omega arith) ∙ y.rest m (omega arith))
              (shelf_other (λ q. z (sym own ∙ q)) (x.shelves g l))
          shelf_there g l (even o) z = absurd (z o)
          shelf_there g l (more o) z =
              let q = shelf_before ms g f n o in
              let j = x.inside in
              let i = count_rises ms g k n (omega arith) in
              let s = shelf_inside ms g n in
              let c = start_is in
              let w = x.few in
              let d = v.after in
              shelf_same same_size
              (λ m u v. rows m (omega arith) ∙ y.front m (omega arith))
              (shelf_other (λ q. z (sym own ∙ q)) (x.shelves g l))

          shelves_more : (g : ℕ) → g < n →
              Shelf keys ms done (k + 1) g (count_below ms g n) (count_below ms g n + count_with ms g (k + 1))
          shelves_more g l = go (eqb f g) refl
            where
              go : (o : Bool) → eqb f g ≡ o →
                  Shelf keys ms done (k + 1) g (count_below ms g n) (count_below ms g n + count_with ms g (k + 1))
              go true q =
                  let z : f ≡ g = eqb-true f g q in
                  let i = end_is in
                  let r = ap (count_with ms f) (add-one k) ∙ count_here ms f k own in
                  let s : count_below ms f n + count_with ms f (k + 1) ≡ b + 1 = omega arith in
                  rw (← z, s, ← start_is) shelf_here
              go false q =
                  let z = eqb-false f g q in
                  let r : count_with ms g (k + 1) ≡ count_with ms g k =
                  ap (count_with ms g) (add-one k) ∙ count_other ms g k (λ o. z (sym own ∙ o)) in
                  rw r (shelf_there g l (way f g) z)

          one_shelved : Shelved n keys ms done (k + 1)
          one_shelved = record {
            few = x.few;
            inside = omega arith;
            size = same_size ∙ x.size;
            firsts = λ m l. let i = small in let w = x.few in parts (marks_at + m) (omega arith) (λ q. omega arith) ∙ x.firsts m l;
            heads = λ r l. let i = small in let w = x.few in parts (heads_at + r) (omega arith) (λ q. omega arith) ∙ x.heads r l;
            starts = λ g l. let i = small in let w = x.few in parts (starts_at + g) (omega arith) (λ q. omega arith) ∙ x.starts g l;
            ends = ends_more;
            shelves = shelves_more;
          }

        module _ {new : List ℕ} (y : Filed index new p b k f) where
          pub row_shelved : Shelved n keys ms new (k + 1)
          row_shelved = rw y.is (one_shelved y.inserted)

          pub row_length : length new ≡ length index
          row_length = row_shelved.size ∙ sym x.size

pub ruleset filing =
    (head_place, head_place_fits, row_few, head_few, shelf_size, shelf_ranked, end_few, place_inside, row_shelved, row_length, rules)

-- The place of a row, by its text.
pub place_told : {keys : List (List ℕ)} {order : List ℕ} {a b : ℕ} (row : ℕ) {p : ℕ} {t : List ℕ} → t ≡ get_or keys row [] →
    Bound keys order a b t p → Bound keys order a b (get_or keys row []) p
place_told row e b = rw e at b

pub place_empty : {keys : List (List ℕ)} {order : List ℕ} {n a b : ℕ} (row : ℕ) → Ranked keys order n a b → a ≡ b →
    Bound keys order a b (get_or keys row []) a
place_empty row r e = record {
  after = omega arith;
  before = omega arith;
  below = λ i h l. absurd (omega arith);
  above = λ i h l. absurd (omega arith);
}

pub ruleset places = (place_told, place_empty, rules)

-- All rows.
module _ {n : ℕ} {keys : List (List ℕ)} {ms index : List ℕ} {k : ℕ} (x : Shelved n keys ms index k) where
  pub shelved_all : n ≤ k → Shelved n keys ms index n
  shelved_all h = let i = x.inside in let z : k ≡ n = omega arith in rw z at x

  pub shelved_length : {old : List ℕ} {j : ℕ} → Shelved n keys ms old j → length index ≡ length old
  shelved_length o = x.size ∙ sym o.size

pub ruleset filing_all = (shelved_all, shelved_length, rules)

-- From nothing to all.
pub made_length : {n : ℕ} {keys : List (List ℕ)} {ms index new : List ℕ} {k : ℕ} → index ≡ replicate index_size 0 →
    Shelved n keys ms new k → length new ≡ length index
made_length e x = x.size ∙ sym (ap length e ∙ length-replicate {A = ℕ} index_size 0)

pub made_index : (side : Side) (rows : List (List ℕ)) (pool index : List ℕ) → ShelvedClasses side rows pool index (length rows) →
    IndexBy side rows pool index
made_index side rows pool index x = record { shelved = λ e. x }

pub ruleset making = (grouped_size, grouped_rows, laid_shelved, made_length, made_index, rules)

-- No table of that size.
pub no_index : {side : Side} {rows : List (List ℕ)} {pool index : List ℕ} → (length index ≡ index_size → ⊥) →
    IndexBy side rows pool index
no_index n = record { shelved = λ e. absurd (n e) }
