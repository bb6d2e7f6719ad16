-- The places of the shelves. Assumes nothing.
use mathlib.Core.Path.{◌≡◌, refl, sym, ◌∙◌, ap}
use mathlib.Core.List.{List}
use mathlib.Core.Logic.{◌⊎◌, inl, inr}
use Prim.Native.Nat.{ℕ, zero, suc, ◌+◌, ◌≤◌, ◌<◌}
use native.Mathlib.Numerals.{add-one}
use native.Mathlib.Omega.{arith}
use lib.ListN.{length, get_or, set, length-set}
use lib.Seq.{get_or-set_same, get_or-set_other}
use mir.Val.{Fits}
use mir.Syntax.{w16, w64}
use borrow.Author.Rules.{rules}
use Rattle.ground.proofs.Cases.{le_or_lt}
use Rattle.table_rows.specs.Rows.{most_classes}
use Rattle.table_index.specs.Inner.Heads.{count_with, count_below}
use Rattle.table_index.specs.Inner.Shelves.{Shelf}
use Rattle.table_index.specs.Inner.Index.{heads_at, starts_at, ends_at, marks_at, index_size, placed, rows_before, Grouped, Laid, Shelved}
use Rattle.table_index.proofs.Heads.{count_zero, below_zero, below_next, below_inside}
use Rattle.table_index.proofs.Grouping.{ends_inside}

pub start_fits : {start : ℕ} → start ≤ most_classes → Fits w16 start
start_fits h = omega arith

pub sum_fits : (index : List ℕ) (f : ℕ) {start count : ℕ} → start ≤ most_classes → ((i : ℕ) → Fits w16 (get_or index i 0)) →
    count ≡ get_or index (ends_at + f) 0 → Fits w64 (start + count)
sum_fits index f h b e = let w = b (ends_at + f) in omega arith

pub ruleset placing = (ends_inside, start_fits, sum_fits, rules)

-- The rows before a shelf.
no_rows : (index : List ℕ) → ◌≡◌ {A = ℕ} 0 (rows_before index 0)
unfolding rows_before
no_rows index = refl

rows_next : (index : List ℕ) (f : ℕ) → rows_before index (suc f) ≡ rows_before index f + get_or index (ends_at + f) 0
unfolding rows_before
rows_next index f = refl

rows_rise : (index : List ℕ) (f g : ℕ) → f ≤ g → rows_before index f ≤ rows_before index g
rows_rise index f zero h = let z : f ≡ 0 = omega arith in rw z (omega arith)
rows_rise index f (suc g) h = go (le_or_lt f g) (rows_rise index f g)
  where
    go : (f ≤ g) ⊎ (g < f) → (f ≤ g → rows_before index f ≤ rows_before index g) →
        rows_before index f ≤ rows_before index (suc g)
    go (inl l) again = let i = again l in let s = rows_next index g in omega arith
    go (inr l) again = let z : f ≡ suc g = omega arith in rw z (omega arith)

pub laid_starts : {index : List ℕ} {n : ℕ} → length index ≡ index_size → n ≤ most_classes →
    rows_before index n ≤ most_classes →
    Laid index n index 0 0
laid_starts {index} e few b = record {
  few = few;
  inside = omega arith;
  bounded = b;
  size = e;
  firsts = λ m h. refl;
  heads = λ r h. refl;
  starts = λ f h. absurd (omega arith);
  ends = λ f h. absurd (omega arith);
  counts = λ f h l. refl;
  summed = no_rows index;
}

module _ {old : List ℕ} {n : ℕ} {index : List ℕ} {g sum : ℕ} (x : Laid old n index g sum) where
  pub laid_size : length index ≡ index_size
  laid_size = x.size

  pub laid_sum : sum ≤ most_classes
  laid_sum = let s = x.summed in let i = x.inside in let r = rows_rise old g n (omega arith) in let b = x.bounded in omega arith

  pub laid_head : g < n → g < most_classes
  laid_head h = let w = x.few in omega arith

  pub laid_next : g < n → Fits w64 (g + 1)
  laid_next h = let w = x.few in omega arith

  pub laid_length : length old ≡ index_size → length index ≡ length old
  laid_length e = x.size ∙ sym e

  pub laid_ends : n ≤ g → Laid old n index n (rows_before old n)
  laid_ends h =
      let i = x.inside in
      let z : g ≡ n = omega arith in
      let s : sum ≡ rows_before old n = x.summed ∙ ap (rows_before old) z in
      rw (z, s) at x

  module _ (h : g < n) {next : ℕ} (e : next ≡ sum + get_or index (ends_at + g) 0) {new : List ℕ} (y : new ≡ placed index g sum) where
    abbrev started : List ℕ
    started = set index (starts_at + g) sum

    started_size : length started ≡ index_size
    started_size = length-set index (starts_at + g) sum ∙ x.size

    others : (i : ℕ) → (i ≡ starts_at + g → ⊥) → (i ≡ ends_at + g → ⊥) → get_or (placed index g sum) i 0 ≡ get_or index i 0
    others i a b = get_or-set_other started (ends_at + g) i sum 0 b ∙ get_or-set_other index (starts_at + g) i sum 0 a

    starts_more : (f : ℕ) → f < g + 1 → (g ≤ f) ⊎ (f < g) → get_or (placed index g sum) (starts_at + f) 0 ≡ rows_before old f
    starts_more f l (inl o) =
        let w = x.few in
        let s = x.size in
        let z : f ≡ g = omega arith in
        rw z
        (get_or-set_other started (ends_at + g) (starts_at + g) sum 0 (λ q. omega arith)
        ∙ get_or-set_same index (starts_at + g) sum 0 (omega arith) ∙ x.summed)
    starts_more f l (inr o) =
        let w = x.few in
        others (starts_at + f) (λ q. omega arith) (λ q. omega arith) ∙ x.starts f o

    ends_more : (f : ℕ) → f < g + 1 → (g ≤ f) ⊎ (f < g) → get_or (placed index g sum) (ends_at + f) 0 ≡ rows_before old f
    ends_more f l (inl o) =
        let w = x.few in
        let s = started_size in
        let z : f ≡ g = omega arith in
        rw z (get_or-set_same started (ends_at + g) sum 0 (omega arith) ∙ x.summed)
    ends_more f l (inr o) =
        let w = x.few in
        others (ends_at + f) (λ q. omega arith) (λ q. omega arith) ∙ x.ends f o

    pub laid_more : Laid old n new (g + 1) next
    laid_more =
        let w = x.few in
        rw y (record {
          few = x.few;
          inside = omega arith;
          bounded = x.bounded;
          size = length-set started (ends_at + g) sum ∙ started_size;
          firsts = λ m l. others (marks_at + m) (λ q. omega arith) (λ q. omega arith) ∙ x.firsts m l;
          heads = λ r l. others (heads_at + r) (λ q. omega arith) (λ q. omega arith) ∙ x.heads r l;
          starts = λ f l. starts_more f l (le_or_lt g f);
          ends = λ f l. ends_more f l (le_or_lt g f);
          counts = λ f l m. others (ends_at + f) (λ q. omega arith) (λ q. omega arith) ∙ x.counts f (omega arith) m;
          summed =
              let s = x.summed in
              let c = x.counts g (omega arith) (omega arith) in
              let r = rows_next old g in
              let z = ap (rows_before old) (add-one g) in
              omega arith;
        })

pub ruleset laying = (laid_starts, laid_size, laid_sum, laid_head, laid_next, laid_length, laid_more, laid_ends, rules)

-- The rows that were counted are those of the heads before.
module _ {n : ℕ} {ms old : List ℕ} (g : Grouped n ms old n) where
  rows_are : (f : ℕ) → f ≤ n → rows_before old f ≡ count_below ms f n
  rows_are zero h = sym (no_rows old) ∙ below_zero ms n
  rows_are (suc f) h =
      let w = g.few in
      let again = rows_are f (omega arith) in
      let r = rows_next old f in
      let c = g.counts f (omega arith) in
      let b = below_next ms f n in
      let z = ap (λ j. count_below ms j n) (add-one f) in
      omega arith

  pub grouped_size : length old ≡ index_size
  grouped_size = g.size

  pub grouped_rows : rows_before old n ≤ most_classes
  grouped_rows = let r = rows_are n (omega arith) in let b = below_inside ms n n in let w = g.few in omega arith

  module _ (keys : List (List ℕ)) {index : List ℕ} {sum : ℕ} (x : Laid old n index n sum) where
    -- a shelf with no row
    empty_shelf : (f : ℕ) → f < n → Shelf keys ms index 0 f (count_below ms f n) (count_below ms f n + count_with ms f 0)
    empty_shelf f h =
        let c = count_zero ms f in
        let b = below_inside ms f n in
        let s = x.size in
        let w = x.few in
        record {
          ranked = record {
            goes = omega arith;
            room = omega arith;
            only = λ i l m. absurd (omega arith);
            sorted = λ i j l m o. absurd (omega arith);
            stable = λ i j l m o e. absurd (omega arith);
          };
          all = λ r l e. absurd (omega arith);
        }

    pub laid_shelved : Shelved n keys ms index 0
    laid_shelved = record {
      few = x.few;
      inside = omega arith;
      size = x.size;
      firsts = λ m l. x.firsts m l ∙ g.firsts m l;
      heads = λ r l. let w = x.few in x.heads r (omega arith) ∙ g.heads r l;
      starts = λ f l. x.starts f l ∙ rows_are f (omega arith);
      ends = λ f l.
          let c = count_zero ms f in
          let e = x.ends f l in
          let r = rows_are f (omega arith) in
          omega arith;
      shelves = empty_shelf;
    }
