-- The place of a text, by halving. Assumes nothing.
use mathlib.Core.Path.{◌≡◌, refl, sym, ◌∙◌, ap}
use mathlib.Core.Bool.{Bool, true, false}
use mathlib.Core.List.{List, []}
use mathlib.Core.Logic.{◌⊎◌, inl, inr}
use Prim.Native.Nat.{ℕ, ◌+◌, ◌-◌, ◌^◌, ◌≤◌, ◌<◌}
use native.Mathlib.Omega.{arith}
use lib.ListN.{length, get_or}
use mir.Val.{Fits}
use mir.Syntax.{w64}
use borrow.Author.Rules.{rules}
use Rattle.ground.proofs.Cases.{le_or_lt, clash}
use Rattle.table_index.specs.Inner.Order.{compared, not_after, at_most}
use Rattle.table_index.specs.Inner.Shelves.{key_at, Ranked, Bound}
use Rattle.table_index.proofs.Comparing.{most_trans}
use Rattle.std.specs.declared.cmp.Ordering.{Ordering}

-- Rows before `low` have a text at or before `t`, those from `high` on do not.
pub record Halving (keys : List (List ℕ)) (order : List ℕ) (a b : ℕ) (t : List ℕ) (low high : ℕ) : Type 0 where
  pub after : a ≤ low
  pub goes : low ≤ high
  pub before : high ≤ b
  pub below : (i : ℕ) → a ≤ i → i < low → at_most (key_at keys order i) t ≡ true
  pub above : (i : ℕ) → high ≤ i → i < b → at_most (key_at keys order i) t ≡ false

pub halving_starts : (t : List ℕ) {keys : List (List ℕ)} {order : List ℕ} {n a b : ℕ} → Ranked keys order n a b →
    Halving keys order a b t a b
halving_starts t r = record {
  after = omega arith;
  goes = r.goes;
  before = omega arith;
  below = λ i h l. absurd (omega arith);
  above = λ i h l. absurd (omega arith);
}

module _ {keys : List (List ℕ)} {order : List ℕ} {a b : ℕ} {t : List ℕ} {low high : ℕ} (x : Halving keys order a b t low high)
  where
    pub halving_ends : high ≤ low → Bound keys order a b t low
    halving_ends h = record {
      after = x.after;
      before = let c = x.before in let d = x.goes in omega arith;
      below = x.below;
      above = λ i l m. x.above i (omega arith) m;
    }

    module _ {n : ℕ} (r : Ranked keys order n a b) {middle : ℕ} (l : low ≤ middle) (h : middle < high) where
      pub middle_inside : middle < length order
      middle_inside = let c = x.before in let d = r.room in omega arith

      pub middle_fits : length order < 2 ^ 64 → Fits w64 (middle + 1)
      middle_fits f = let c = x.before in let d = r.room in omega arith

      module _ {row : ℕ} (e : row ≡ get_or order middle 0) where
        pub middle_row : row < n
        middle_row = let c = x.before in let d = x.after in let o = r.only middle (omega arith) (omega arith) in omega arith

        module _ {s : List ℕ} (u : s ≡ get_or keys row []) {o : Ordering} (v : o ≡ compared s t) {z : Bool} (w : z ≡ not_after o) where
          told : {y : Bool} → z ≡ y → at_most (key_at keys order middle) t ≡ y
          told f =
              ap (λ j. at_most (get_or keys j []) t) (sym e) ∙ ap (λ k. at_most k t) (sym u) ∙ ap not_after (sym v) ∙ sym w ∙ f

          pub halving_up : z ≡ true → Halving keys order a b t (middle + 1) high
          halving_up f = record {
            after = let d = x.after in omega arith;
            goes = omega arith;
            before = x.before;
            below = λ i m k. go i m (le_or_lt middle i) k;
            above = x.above;
          }
            where
              go : (i : ℕ) → a ≤ i → (middle ≤ i) ⊎ (i < middle) → i < middle + 1 → at_most (key_at keys order i) t ≡ true
              go i m (inl c) k = let y : i ≡ middle = omega arith in ap (λ j. at_most (key_at keys order j) t) y ∙ told f
              go i m (inr c) k =
                  let d = x.before in
                  most_trans (key_at keys order i) (key_at keys order middle) t (r.sorted i middle m c (omega arith)) (told f)

          pub halving_down : z ≡ false → Halving keys order a b t low middle
          halving_down f = record {
            after = x.after;
            goes = l;
            before = let d = x.before in omega arith;
            below = x.below;
            above = λ i m k. go i k (le_or_lt i middle) m;
          }
            where
              go : (i : ℕ) → i < b → (i ≤ middle) ⊎ (middle < i) → middle ≤ i → at_most (key_at keys order i) t ≡ false
              go i k (inl c) m = let y : i ≡ middle = omega arith in ap (λ j. at_most (key_at keys order j) t) y ∙ told f
              go i k (inr c) m = decide (at_most (key_at keys order i) t) refl
                where
                  decide : (y : Bool) → at_most (key_at keys order i) t ≡ y → y ≡ false
                  decide false g = refl
                  decide true g =
                      let d = x.after in
                      clash
                      (most_trans (key_at keys order middle) (key_at keys order i) t (r.sorted middle i (omega arith) c k) g)
                      (told f)

pub up_less : {low middle high : ℕ} → low ≤ middle → middle < high → high - (middle + 1) < high - low
up_less l h = omega arith

pub down_less : {low middle high : ℕ} → low ≤ middle → middle < high → middle - low < high - low
down_less l h = omega arith

pub ruleset halving =
    (halving_starts, halving_ends, middle_inside, middle_fits, middle_row, halving_up, halving_down, up_less, down_less, rules)
