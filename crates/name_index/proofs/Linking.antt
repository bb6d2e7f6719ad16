-- The last row below a number with a mark, and the table that chains rows of one mark. Assumes nothing.
use mathlib.Core.Path.{◌≡◌, refl, sym, ◌∙◌, ap}
use mathlib.Core.Bool.{Bool, true, false}
use mathlib.Core.List.{List, [], ◌∷◌}
use mathlib.Core.Logic.{◌⊎◌, inl, inr}
use Prim.Native.Nat.{ℕ, zero, suc, ◌+◌, ◌-◌, ◌≤◌, ◌<◌}
use native.Mathlib.Numerals.{add-one}
use native.Mathlib.Omega.{arith}
use lib.Dec.{eqb}
use lib.ListN.{length, get_or, set, take, replicate, length-set, length-replicate}
use lib.Seq.{get_or-set_same, get_or-set_other}
use borrow.Author.Tests.{eqb-true, eqb-false}
use borrow.Author.Rules.{rules}
use Rattle.ground.specs.Choice.{pick}
use Rattle.ground.proofs.Cases.{le_or_lt}
use Rattle.table_rows.specs.declared.rows.Class.{Class}
use Rattle.table_rows.specs.declared.rows.Member.{Member}
use Rattle.table_rows.specs.Rows.{unpack_class, unpack_member, most_members}
use Rattle.tables.specs.Back.{text_in}
use Rattle.table_index.specs.Inner.Marks.{mark_count, mark_from}
use Rattle.table_index.proofs.Marking.{mark_from_below, marked_below}
use Rattle.name_index.specs.declared.chains.ClassMark.{ClassMark}
use Rattle.name_index.specs.Inner.Chains.{last_below, chained, member_index_size, member_mark, class_mark, row_mark, mark_at, Chained}
use Rattle.ground.proofs.Fill.{zero_at}

module _ (f : ℕ → ℕ) (h : ℕ) where
  pub last_inside : (n : ℕ) → last_below f h n ≤ n
  unfolding last_below
  last_inside zero = omega arith
  last_inside (suc n) = go (eqb (f n) h) (last_inside n)
    where
      go : (b : Bool) → last_below f h n ≤ n → pick b (suc n) (last_below f h n) ≤ suc n
      go true i = omega arith
      go false i = omega arith

  -- no row from there on has the mark
  pub last_above : (n j : ℕ) → last_below f h n ≤ j → j < n → f j ≡ h → ⊥
  unfolding last_below
  last_above zero j l i e = omega arith
  last_above (suc n) j l i e = go (eqb (f n) h) refl l (le_or_lt n j) (last_above n j)
    where
      go : (b : Bool) → eqb (f n) h ≡ b → pick b (suc n) (last_below f h n) ≤ j → (n ≤ j) ⊎ (j < n) → (last_below f h n ≤ j → j < n → f j ≡ h → ⊥) → ⊥
      go true t m o again = omega arith
      go false t m (inl o) again = let same : j ≡ n = omega arith in eqb-false (f n) h t (ap f (sym same) ∙ e)
      go false t m (inr o) again = again m o e

  -- and it has the mark itself
  pub last_mark : (n : ℕ) {count : ℕ} → count ≡ last_below f h n → 0 < count → f (count - 1) ≡ h
  unfolding last_below
  last_mark zero e l = absurd (omega arith)
  last_mark (suc n) {count} e l = go (eqb (f n) h) refl e (last_mark n {count = count})
    where
      go : (b : Bool) → eqb (f n) h ≡ b → count ≡ pick b (suc n) (last_below f h n) → (count ≡ last_below f h n → 0 < count → f (count - 1) ≡ h) → f (count - 1) ≡ h
      go true t m again = let same : count - 1 ≡ n = omega arith in ap f same ∙ eqb-true (f n) h t
      go false t m again = again m l

-- One row more.
module _ (index : List ℕ) (f : ℕ → ℕ) (n : ℕ) (size : length index ≡ member_index_size) (small : f n < mark_count) (few : n < most_members)
    (starts : (h : ℕ) → h < mark_count → get_or index h 0 ≡ last_below f h n) where
  abbrev linked : List ℕ
  linked = set index (mark_count + n) (get_or index (f n) 0)

  linked_size : length linked ≡ member_index_size
  linked_size = length-set index (mark_count + n) (get_or index (f n) 0) ∙ size

  chained_size : length (chained index (f n) n) ≡ member_index_size
  chained_size = length-set linked (f n) (n + 1) ∙ linked_size

  starts_more : (h : ℕ) → h < mark_count → get_or (chained index (f n) n) h 0 ≡ last_below f h (suc n)
  unfolding last_below
  starts_more h i = go (eqb (f n) h) refl
    where
      go : (b : Bool) → eqb (f n) h ≡ b → get_or (chained index (f n) n) h 0 ≡ pick b (suc n) (last_below f h n)
      go true t =
          let same : h ≡ f n = sym (eqb-true (f n) h t) in
          let s = linked_size in
          ap (λ k. get_or (chained index (f n) n) k 0) same ∙ get_or-set_same linked (f n) (n + 1) 0 (omega arith) ∙ add-one n
      go false t =
          get_or-set_other linked (f n) h (n + 1) 0 (λ e. eqb-false (f n) h t (sym e))
          ∙ get_or-set_other index (mark_count + n) h (get_or index (f n) 0) 0 (λ e. omega arith) ∙ starts h i

  links_more : ((i : ℕ) → i < n → get_or index (mark_count + i) 0 ≡ last_below f (f i) i) →
      (i : ℕ) → i < n + 1 → get_or (chained index (f n) n) (mark_count + i) 0 ≡ last_below f (f i) i
  links_more links i l = get_or-set_other linked (f n) (mark_count + i) (n + 1) 0 (λ e. omega arith) ∙ go (le_or_lt n i)
    where
      go : (n ≤ i) ⊎ (i < n) → get_or linked (mark_count + i) 0 ≡ last_below f (f i) i
      go (inl o) =
          let same : n ≡ i = omega arith in
          rw (← same) (get_or-set_same index (mark_count + n) (get_or index (f n) 0) 0 (omega arith) ∙ starts (f n) small)
      go (inr o) = get_or-set_other index (mark_count + n) (mark_count + i) (get_or index (f n) 0) 0 (λ e. omega arith) ∙ links i o

none_below : (f : ℕ → ℕ) (h : ℕ) → ◌≡◌ {A = ℕ} (last_below f h 0) 0
unfolding last_below
none_below f h = refl

-- Marks.
pub three_marked : (raw name descriptor : List ℕ) {a b c : ℕ} → a ≡ mark_from 0 raw → b ≡ mark_from a name → c ≡ mark_from b descriptor → c ≡ member_mark raw name descriptor
three_marked raw name descriptor e f g = g ∙ ap (λ x. mark_from x descriptor) (f ∙ ap (λ x. mark_from x name) e)

pub ruleset marking_member = (marked_below, three_marked, rules)

pub mark_below : (raw name descriptor : List ℕ) → member_mark raw name descriptor < mark_count
mark_below raw name descriptor = mark_from_below (mark_from (mark_from 0 raw) name) descriptor

-- The raw descriptor of a class row, which may not be there.
get_d_beyond : (rows : List (List ℕ)) (i : ℕ) → length rows ≤ i → get_or rows i [] ≡ []
get_d_beyond [] i h = refl
get_d_beyond (r ∷ rows) zero h = absurd (omega arith)
get_d_beyond (r ∷ rows) (suc i) h = get_d_beyond rows i (omega arith)

module _ (rows : List (List ℕ)) (pool : List ℕ) (i : ℕ) where
  pub raw_read : {c : Class} → c ≡ unpack_class (get_or rows i []) → {d : List ℕ} → d ≡ text_in pool c.raw → d ≡ text_in pool (unpack_class (get_or rows i [])).raw
  raw_read g h = h ∙ ap (λ x. text_in pool x.raw) g

  pub raw_beyond : length rows ≤ i → take 0 pool ≡ text_in pool (unpack_class (get_or rows i [])).raw
  raw_beyond h = sym (rw (get_d_beyond rows i h))

pub ruleset raw_reading = (raw_read, raw_beyond, rules)

-- The mark of a class row, made or kept.
module _ (classes : List (List ℕ)) (pool : List ℕ) (class : ℕ) where
  pub class_marked : {raw : List ℕ} → raw ≡ text_in pool (unpack_class (get_or classes class [])).raw → {m : ℕ} → m ≡ mark_from 0 raw →
      m ≡ class_mark classes pool class
  class_marked e f = f ∙ ap (mark_from 0) e

  pub class_kept : {k : ClassMark} → k.mark ≡ class_mark classes pool k.class → class ≡ k.class → k.mark ≡ class_mark classes pool class
  class_kept e f = e ∙ ap (class_mark classes pool) (sym f)

pub ruleset class_marking = (class_marked, class_kept, rules)

-- The mark of a row, by that of its class.
pub two_marked : (h : ℕ) (name descriptor : List ℕ) {a b : List ℕ} → a ≡ name → b ≡ descriptor → {x y : ℕ} → x ≡ mark_from h a →
    y ≡ mark_from x b → y ≡ mark_from (mark_from h name) descriptor
two_marked h name descriptor e f {x} {y} g i = i ∙ ap (λ l. mark_from x l) f ∙ ap (λ z. mark_from z descriptor) (g ∙ ap (mark_from h) e)

pub ruleset row_marking = (marked_below, two_marked, rules)

pub row_marked : (classes : List (List ℕ)) (pool : List ℕ) (m : Member) {k : ℕ} → k ≡ class_mark classes pool m.class → {x : ℕ} →
    x ≡ mark_from (mark_from k (text_in pool m.raw_name)) (text_in pool m.descriptor) → x ≡ row_mark classes pool m
row_marked classes pool m e h =
    h ∙ ap (λ y. mark_from (mark_from y (text_in pool m.raw_name)) (text_in pool m.descriptor)) e

pub class_small : (classes : List (List ℕ)) (pool : List ℕ) (class : ℕ) {k : ℕ} → k ≡ class_mark classes pool class → k < mark_count
class_small classes pool class e = rw e (mark_from_below 0 (text_in pool (unpack_class (get_or classes class [])).raw))

-- Row after row.
module _ (classes : List (List ℕ)) (pool : List ℕ) (rows : List (List ℕ)) where
  pub chaining_starts : {index : List ℕ} → index ≡ replicate member_index_size 0 → length rows ≤ most_members → Chained classes pool rows index 0
  chaining_starts e h =
      record {
        few = h;
        inside = omega arith;
        size = ap length e ∙ length-replicate {A = ℕ} member_index_size 0;
        starts = λ m i. ap (λ l. get_or l m 0) e ∙ zero_at member_index_size m ∙ sym (none_below (mark_at classes pool rows) m);
        links = λ i l. absurd (omega arith);
      }

  module _ {index : List ℕ} {k : ℕ} (c : Chained classes pool rows index k) where
    pub chaining_ends : length rows ≤ k → Chained classes pool rows index (length rows)
    chaining_ends h = let i = c.inside in let z : k ≡ length rows = omega arith in rw z at c

    module _ (h : k < length rows) where
      pub chaining_few : k < most_members
      chaining_few = let f = c.few in omega arith

      pub chaining_size : length index ≡ member_index_size
      chaining_size = c.size

      module _ {m : Member} (e : m ≡ unpack_member (get_or rows k [])) {x : ℕ} (f : x ≡ row_mark classes pool m) where
        here : x ≡ mark_at classes pool rows k
        here = f ∙ ap (row_mark classes pool) e

        pub chaining_small : x < mark_count
        chaining_small =
            let r = unpack_member (get_or rows k []) in
            rw here (mark_below (text_in pool (unpack_class (get_or classes r.class [])).raw) (text_in pool r.raw_name) (text_in pool r.descriptor))

        pub chaining_more : {new : List ℕ} → new ≡ chained index x k → Chained classes pool rows new (k + 1)
        chaining_more g =
            let s : mark_at classes pool rows k < mark_count = rw (← here) chaining_small in
            let w = c.few in
            let z : k + 1 ≡ suc k = omega arith in
            let is : chained index x k ≡ chained index (mark_at classes pool rows k) k = ap (λ y. chained index y k) here in
            rw (g, is) (record {
              few = c.few;
              inside = omega arith;
              size = chained_size index (mark_at classes pool rows) k c.size s (omega arith) c.starts;
              starts = λ a i. starts_more index (mark_at classes pool rows) k c.size s (omega arith) c.starts a i ∙ ap (last_below (mark_at classes pool rows) a) (sym z);
              links = λ i l. links_more index (mark_at classes pool rows) k c.size s (omega arith) c.starts c.links i (omega arith);
            })

pub chaining_length : (classes : List (List ℕ)) (pool : List ℕ) (rows : List (List ℕ)) {old new : List ℕ} {k : ℕ} → old ≡ replicate member_index_size 0 → Chained classes pool rows new k →
    length new ≡ length old
chaining_length classes pool rows e c = c.size ∙ sym (ap length e ∙ length-replicate {A = ℕ} member_index_size 0)

-- The mark that is kept is that of its class row.
pub kept_on : (classes : List (List ℕ)) (pool : List ℕ) (class : ℕ) {k : ClassMark} → k.class ≡ class →
    k.mark ≡ class_mark classes pool class → k.mark ≡ class_mark classes pool k.class
kept_on classes pool class e f = f ∙ ap (class_mark classes pool) (sym e)

pub record Indexing
    (classes : List (List ℕ))
    (pool : List ℕ)
    (rows : List (List ℕ))
    (index : List ℕ)
    (kept : ClassMark)
    (k : ℕ) : Type 0 where
  pub chain : Chained classes pool rows index k
  pub mark : kept.mark ≡ class_mark classes pool kept.class

pub ruleset chaining = (kept_on, row_marked, class_small, chaining_length, chaining_starts, chaining_ends, chaining_few, chaining_size, chaining_small, chaining_more, rules)

-- One row, as the code stores it.
pub kept_size : (index : List ℕ) (i v : ℕ) → length index ≡ member_index_size → {m : ℕ} → m < mark_count → m < length (set index i v)
kept_size index i v e h = omega (arith, length-set index i v, e)

pub ruleset storing = (kept_size, rules)
