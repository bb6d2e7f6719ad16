-- One number more at a place. Assumes nothing.
use mathlib.Core.Path.{◌≡◌, refl, sym, ◌∙◌, ap}
use mathlib.Core.List.{List}
use mathlib.Core.Logic.{◌⊎◌, inl, inr}
use Prim.Native.Nat.{ℕ, ◌-◌, ◌≤◌, ◌<◌}
use native.Mathlib.Omega.{arith}
use lib.ListN.{length, get_or, set, length-set}
use lib.Seq.{get_or-set_same, get_or-set_other}
use mir.Val.{Fits}
use mir.Syntax.{w16}
use borrow.Author.Rules.{rules}
use Rattle.ground.proofs.Cases.{le_or_lt}
use Rattle.table_rows.specs.Rows.{most_classes}
use Rattle.table_index.specs.Inner.Shelves.{Inserted}

-- Those behind `i` stand one place further, and what stands up to `i` is as it was.
pub record Shifting (old now : List ℕ) (p b i : ℕ) : Type 0 where
  pub above : p ≤ i
  pub inside : i ≤ b
  pub room : b < length old
  pub size : length now ≡ length old
  pub front : (k : ℕ) → k ≤ i → get_or now k 0 ≡ get_or old k 0
  pub back : (k : ℕ) → i < k → k ≤ b → get_or now k 0 ≡ get_or old (k - 1) 0
  pub rest : (k : ℕ) → b < k → get_or now k 0 ≡ get_or old k 0

pub shifting_starts : {old : List ℕ} {p b : ℕ} → p ≤ b → b < length old → Shifting old old p b b
shifting_starts h r = record {
  above = h;
  inside = omega arith;
  room = r;
  size = refl;
  front = λ k g. refl;
  back = λ k g l. absurd (omega arith);
  rest = λ k g. refl;
}

module _ {old now : List ℕ} {p b i : ℕ} (s : Shifting old now p b i) where
  module _ (h : p < i) where
    pub shifting_read : i - 1 < length now
    shifting_read = let a = s.inside in let r = s.room in let z = s.size in omega arith

    pub shifting_write : i < length now
    shifting_write = let a = s.inside in let r = s.room in let z = s.size in omega arith

    abbrev moved : List ℕ
    moved = set now i (get_or now (i - 1) 0)

    pub shifting_more : Shifting old (set now i (get_or now (i - 1) 0)) p b (i - 1)
    shifting_more = record {
      above = omega arith;
      inside = let a = s.inside in omega arith;
      room = s.room;
      size = length-set now i (get_or now (i - 1) 0) ∙ s.size;
      front = λ k g. get_or-set_other now i k (get_or now (i - 1) 0) 0 (λ e. omega arith) ∙ s.front k (omega arith);
      back = λ k g l. go k l (le_or_lt k i) g;
      rest = λ k g. let a = s.inside in get_or-set_other now i k (get_or now (i - 1) 0) 0 (λ e. omega arith) ∙ s.rest k g;
    }
      where
        go : (k : ℕ) → k ≤ b → (k ≤ i) ⊎ (i < k) → i - 1 < k → get_or moved k 0 ≡ get_or old (k - 1) 0
        go k l (inl o) g =
            let z : k ≡ i = omega arith in
            ap (λ j. get_or moved j 0) z ∙ get_or-set_same now i (get_or now (i - 1) 0) 0 shifting_write
            ∙ s.front (i - 1) (omega arith) ∙ ap (λ j. get_or old (j - 1) 0) (sym z)
        go k l (inr o) g = get_or-set_other now i k (get_or now (i - 1) 0) 0 (λ e. omega arith) ∙ s.back k o l

  module _ (h : i ≤ p) where
    pub shifting_last : p < length now
    shifting_last = let a = s.inside in let r = s.room in let z = s.size in let c = s.above in omega arith

    pub shifting_ends : (row : ℕ) → Inserted old (set now p row) p b row
    shifting_ends row = record {
      size = length-set now p row ∙ s.size;
      front = λ k g. get_or-set_other now p k row 0 (λ e. omega arith) ∙ s.front k (let c = s.above in omega arith);
      here = get_or-set_same now p row 0 shifting_last;
      back = λ k g l. get_or-set_other now p k row 0 (λ e. omega arith) ∙ s.back k (omega arith) l;
      rest = λ k g.
          let a = s.inside in
          let c = s.above in
          get_or-set_other now p k row 0 (λ e. omega arith) ∙ s.rest k g;
    }

pub row_fits : {row : ℕ} → row < most_classes → Fits w16 row
row_fits h = omega arith

pub ruleset shifting =
    (shifting_starts, shifting_read, shifting_write, shifting_more, shifting_last, shifting_ends, row_fits, rules)
