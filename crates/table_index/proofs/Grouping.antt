-- The head of one row more. Assumes nothing.
use mathlib.Core.Path.{◌≡◌, refl, sym, ◌∙◌, ap}
use mathlib.Core.Bool.{Bool, true, false}
use mathlib.Core.List.{List, []}
use mathlib.Core.Logic.{◌⊎◌, inl, inr}
use Prim.Native.Nat.{ℕ, suc, ◌+◌, ◌-◌, ◌≤◌, ◌<◌}
use native.Mathlib.Numerals.{add-one}
use native.Mathlib.Omega.{arith}
use lib.Dec.{eqb}
use lib.ListN.{length, get_or, set, replicate, length-set, length-replicate}
use lib.Seq.{get_or-set_same, get_or-set_other}
use mir.Val.{Fits}
use mir.Syntax.{w16, w64}
use borrow.Author.Tests.{eqb-true, eqb-false}
use borrow.Author.Rules.{rules}
use Rattle.ground.proofs.Cases.{le_or_lt}
use Rattle.table_rows.specs.Rows.{most_classes}
use Rattle.table_index.specs.Inner.Marks.{mark_count, mark_of, marks_of}
use Rattle.table_index.specs.Inner.Heads.{or_number, first_with, head_of, count_with}
use Rattle.table_index.specs.Inner.Index.{heads_at, ends_at, marks_at, index_size, joined, Grouped}
use Rattle.table_index.proofs.Marking.{mark_below, mark_is}
use Rattle.table_index.proofs.Heads.{first_inside, first_here, first_other, head_new, head_old, head_told, head_inside}
use Rattle.table_index.proofs.Heads.{count_zero, count_here, count_other, count_inside}
use Rattle.ground.proofs.Fill.{zero_at}

-- A part of the table after one number was written.
pub ends_inside : (index : List ℕ) (i v : ℕ) {f : ℕ} → length index ≡ index_size → f < most_classes →
    ends_at + f < length (set index i v)
ends_inside index i v e h = let s = length-set index i v in omega arith

pub ruleset joining = (ends_inside, rules)

-- Zeros.
no_first : (ms : List ℕ) (m : ℕ) → ◌≡◌ {A = ℕ} 0 (first_with ms m 0)
unfolding first_with
no_first ms m = refl

pub grouped_none : (ms : List ℕ) {n : ℕ} {index : List ℕ} → index ≡ replicate index_size 0 → n ≤ most_classes →
    Grouped n ms index 0
grouped_none ms {n} {index} e few = record {
  few = few;
  inside = omega arith;
  size = ap length e ∙ length-replicate {A = ℕ} index_size 0;
  firsts = λ m h. ap (λ l. get_or l (marks_at + m) 0) e ∙ zero_at index_size (marks_at + m) ∙ no_first ms m;
  heads = λ r h. absurd (omega arith);
  counts = λ f h. ap (λ l. get_or l (ends_at + f) 0) e ∙ zero_at index_size (ends_at + f) ∙ count_zero ms f;
}

-- One row more, whose head is `f`, in a table whose marks know it already.
module _ (n : ℕ) (ms index : List ℕ) (k f : ℕ) (few : n ≤ most_classes) (h : k < n) (size : length index ≡ index_size)
    (own : head_of ms k ≡ f)
    (firsts : (m : ℕ) → m < mark_count → get_or index (marks_at + m) 0 ≡ first_with ms m (suc k))
    (heads : (r : ℕ) → r < k → get_or index (heads_at + r) 0 ≡ head_of ms r)
    (counts : (g : ℕ) → g < most_classes → get_or index (ends_at + g) 0 ≡ count_with ms g k) where
  abbrev linked : List ℕ
  linked = set index (heads_at + k) f

  linked_size : length linked ≡ index_size
  linked_size = length-set index (heads_at + k) f ∙ size

  small : f < most_classes
  small = let i = head_inside ms k in omega arith

  -- what a number of the table is that was not written
  others : (i : ℕ) → (i ≡ ends_at + f → ⊥) → (i ≡ heads_at + k → ⊥) → get_or (joined index k f) i 0 ≡ get_or index i 0
  others i a b =
      get_or-set_other linked (ends_at + f) i (get_or index (ends_at + f) 0 + 1) 0 a ∙ get_or-set_other index (heads_at + k) i f 0 b

  counts_more : (g : ℕ) → g < most_classes → get_or (joined index k f) (ends_at + g) 0 ≡ count_with ms g (suc k)
  counts_more g l = go (eqb f g) refl
    where
      go : (b : Bool) → eqb f g ≡ b → get_or (joined index k f) (ends_at + g) 0 ≡ count_with ms g (suc k)
      go true t =
          let z : f ≡ g = eqb-true f g t in
          let s = linked_size in
          let m = small in
          rw (← z)
          (get_or-set_same linked (ends_at + f) (get_or index (ends_at + f) 0 + 1) 0 (omega arith) ∙ ap (λ x. x + 1) (counts f m)
          ∙ add-one (count_with ms f k) ∙ sym (count_here ms f k own))
      go false t =
          let z = eqb-false f g t in
          let m = small in
          others (ends_at + g) (λ e. z (omega arith)) (λ e. omega arith) ∙ counts g l
          ∙ sym (count_other ms g k (λ e. z (sym own ∙ e)))

  heads_more : (r : ℕ) → r < suc k → get_or (joined index k f) (heads_at + r) 0 ≡ head_of ms r
  heads_more r l = go (le_or_lt k r)
    where
      go : (k ≤ r) ⊎ (r < k) → get_or (joined index k f) (heads_at + r) 0 ≡ head_of ms r
      go (inl o) =
          let z : k ≡ r = omega arith in
          let m = small in
          rw (← z)
          (get_or-set_other linked (ends_at + f) (heads_at + k) (get_or index (ends_at + f) 0 + 1) 0 (λ e. omega arith)
          ∙ get_or-set_same index (heads_at + k) f 0 (omega arith) ∙ sym own)
      go (inr o) = let m = small in others (heads_at + r) (λ e. omega arith) (λ e. omega arith) ∙ heads r o

  joined_grouped : {q : ℕ} → q ≡ suc k → Grouped n ms (joined index k f) q
  joined_grouped next = rw next (record {
    few = few;
    inside = omega arith;
    size = length-set linked (ends_at + f) (get_or index (ends_at + f) 0 + 1) ∙ linked_size;
    firsts = λ m l. let z = small in others (marks_at + m) (λ e. omega arith) (λ e. omega arith) ∙ firsts m l;
    heads = heads_more;
    counts = counts_more;
  })

module _ (keys : List (List ℕ)) {n k : ℕ} {index : List ℕ} (g : Grouped n (marks_of keys) index k) (h : k < n)
    {t : List ℕ} (e : t ≡ get_or keys k []) {mark : ℕ} (f : mark ≡ mark_of t) where
  told : mark ≡ get_or (marks_of keys) k 0
  told = f ∙ ap mark_of e ∙ sym (mark_is keys k)

  below : mark < mark_count
  below = let b = mark_below t in omega arith

  pub mark_place : marks_at + mark < length index
  mark_place = let b = below in let s = g.size in omega arith

  pub mark_place_fits : Fits w64 (marks_at + mark)
  mark_place_fits = let b = below in omega arith

  pub number_fits : Fits w16 (k + 1)
  number_fits = let w = g.few in omega arith

  pub row_few : k < most_classes
  row_few = let w = g.few in omega arith

  module _ {first : ℕ} (p : first ≡ get_or index (marks_at + mark) 0) where
    first_is : first ≡ first_with (marks_of keys) (get_or (marks_of keys) k 0) k
    first_is = p ∙ g.firsts mark below ∙ ap (λ m. first_with (marks_of keys) m k) told

    module _ (z : first ≡ 0) where
      abbrev numbered : List ℕ
      numbered = set index (marks_at + mark) (k + 1)

      pub new_size : (v : ℕ) → length (set index (marks_at + mark) v) ≡ index_size
      new_size v = length-set index (marks_at + mark) v ∙ g.size

      kept : (i : ℕ) → (i ≡ marks_at + mark → ⊥) → get_or numbered i 0 ≡ get_or index i 0
      kept i n = get_or-set_other index (marks_at + mark) i (k + 1) 0 n

      pub new_count : (v : ℕ) → get_or (set index (marks_at + mark) v) (ends_at + k) 0 < most_classes
      new_count v =
          let w = g.few in
          let s = get_or-set_other index (marks_at + mark) (ends_at + k) v 0 (λ e. omega arith) in
          let c = g.counts k (omega arith) in
          let i = count_inside (marks_of keys) k k in
          omega arith

      is_new : first_with (marks_of keys) (get_or (marks_of keys) k 0) k ≡ 0
      is_new = sym first_is ∙ z

      numbers : (m : ℕ) → m < mark_count → get_or numbered (marks_at + m) 0 ≡ first_with (marks_of keys) m (suc k)
      numbers m l = go (eqb mark m) refl
        where
          go : (b : Bool) → eqb mark m ≡ b → get_or numbered (marks_at + m) 0 ≡ first_with (marks_of keys) m (suc k)
          go true o =
              let q : m ≡ get_or (marks_of keys) k 0 = sym (eqb-true mark m o) ∙ told in
              let v : mark ≡ m = eqb-true mark m o in
              ap (λ x. get_or numbered (marks_at + x) 0) (sym v)
              ∙ get_or-set_same index (marks_at + mark) (k + 1) 0 mark_place ∙ add-one k
              ∙ sym (ap (λ x. first_with (marks_of keys) x (suc k)) q
              ∙ first_here (marks_of keys) (get_or (marks_of keys) k 0) k refl ∙ ap (λ x. or_number x (suc k)) is_new)
          go false o =
              let v = eqb-false mark m o in
              kept (marks_at + m) (λ y. v (omega arith)) ∙ g.firsts m l
              ∙ sym (first_other (marks_of keys) m k (λ y. v (told ∙ y)))

      pub new_grouped : {new : List ℕ} → new ≡ joined (set index (marks_at + mark) (k + 1)) k k →
          Grouped n (marks_of keys) new (k + 1)
      new_grouped y =
          let w = g.few in
          rw y
          (joined_grouped n (marks_of keys) numbered k k g.few h (new_size (k + 1)) (head_new (marks_of keys) k is_new) numbers
          (λ r l. kept (heads_at + r) (λ o. omega arith) ∙ g.heads r l)
          (λ x l. kept (ends_at + x) (λ o. omega arith) ∙ g.counts x l) (add-one k))

    module _ (z : first ≡ 0 → ⊥) where
      pub old_sub : 1 ≤ first
      old_sub = omega arith

      pub old_head : first - 1 < most_classes
      old_head =
          let w = g.few in
          let q = first_is in
          let i = first_inside (marks_of keys) (get_or (marks_of keys) k 0) k in
          omega arith

      pub old_count : get_or index (ends_at + (first - 1)) 0 < most_classes
      old_count =
          let w = g.few in
          let c = g.counts (first - 1) old_head in
          let i = count_inside (marks_of keys) (first - 1) k in
          omega arith

      own : head_of (marks_of keys) k ≡ first - 1
      own = head_old (marks_of keys) k first_is z

      numbers_old : (m : ℕ) → m < mark_count → get_or index (marks_at + m) 0 ≡ first_with (marks_of keys) m (suc k)
      numbers_old m l = g.firsts m l ∙ go (eqb (get_or (marks_of keys) k 0) m) refl
        where
          go : (b : Bool) → eqb (get_or (marks_of keys) k 0) m ≡ b → first_with (marks_of keys) m k ≡ first_with (marks_of keys) m (suc k)
          go true o =
              let q : get_or (marks_of keys) k 0 ≡ m = eqb-true (get_or (marks_of keys) k 0) m o in
              let v = first_is in
              let a : first_with (marks_of keys) (get_or (marks_of keys) k 0) (suc k) ≡ head_of (marks_of keys) k + 1 =
              head_told (marks_of keys) (suc k) k (omega arith) in
              let b = own in
              rw (← q) (omega arith)
          go false o = sym (first_other (marks_of keys) m k (eqb-false (get_or (marks_of keys) k 0) m o))

      pub old_grouped : {new : List ℕ} → new ≡ joined index k (first - 1) → Grouped n (marks_of keys) new (k + 1)
      old_grouped y =
          rw y
          (joined_grouped n (marks_of keys) index k (first - 1) g.few h g.size own numbers_old g.heads g.counts (add-one k))

pub joined_length : (index : List ℕ) (i v : ℕ) {new : List ℕ} (k f : ℕ) → new ≡ joined (set index i v) k f →
    length new ≡ length index
joined_length index i v k f e =
    ap length e ∙ length-set (set (set index i v) (heads_at + k) f) (ends_at + f) (get_or (set index i v) (ends_at + f) 0 + 1)
    ∙ length-set (set index i v) (heads_at + k) f ∙ length-set index i v

pub ruleset grouping = (
  mark_place,
  mark_place_fits,
  number_fits,
  row_few,
  new_size,
  new_count,
  new_grouped,
  old_sub,
  old_head,
  old_count,
  old_grouped,
  joined_length,
  rules,
)

pub grouped_all : {n : ℕ} {ms index : List ℕ} {k : ℕ} → Grouped n ms index k → n ≤ k → Grouped n ms index n
grouped_all {n} {k = k} g h = let i = g.inside in let z : k ≡ n = omega arith in rw z at g

pub zeros_length : {n : ℕ} {ms index new : List ℕ} {k : ℕ} → index ≡ replicate index_size 0 → Grouped n ms new k →
    length new ≡ length index
zeros_length e g = g.size ∙ sym (ap length e ∙ length-replicate {A = ℕ} index_size 0)

pub ruleset grouping_all = (grouped_none, grouped_all, zeros_length, rules)
