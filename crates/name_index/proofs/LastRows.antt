-- The last row that answers, by places: it does, and no row behind it. Assumes nothing.
use Rattle.std.specs.Prelude.{Option, Some, None}
use mathlib.Core.Path.{◌≡◌, refl, ◌∙◌, ap}
use mathlib.Core.Bool.{Bool, true, false}
use mathlib.Core.List.{List, [], ◌∷◌}
use Prim.Native.Nat.{ℕ, zero, suc, ◌-◌, ◌≤◌, ◌<◌}
use native.Mathlib.Omega.{arith}
use lib.ListN.{length, get_or}
use Rattle.ground.specs.Choice.{pick}
use Rattle.text_places.proofs.PlaceLaws.{same_equal}
use Rattle.table_rows.specs.Rows.{unpack_class}
use Rattle.tables.specs.declared.search.Side.TheVariants.{Raw}
use Rattle.tables.specs.Back.{text_in}
use Rattle.tables.specs.Search.{or_row, last_row_from, has_name, last_raw}

neither : (o : Option ℕ) (b : Bool) (at : ℕ) → or_row o (pick b (Some at) None) ≡ None → (o ≡ None) × (b ≡ false)
neither (Some j) b at e = absurd (let z : ◌≡◌ {A = ℕ} 0 1 = cc in omega arith)
neither None true at e = absurd (let z : ◌≡◌ {A = ℕ} 0 1 = cc in omega arith)
neither None false at e = (refl, refl)

-- where none is found, none answers
pub last_none : (p : List ℕ → Bool) (at : ℕ) (rows : List (List ℕ)) → last_row_from p at rows ≡ None → (j : ℕ) → j < length rows →
    p (get_or rows j []) ≡ false
unfolding last_row_from
last_none p at [] e j h = absurd (omega arith)
last_none p at (row ∷ rows) e zero h = (neither (last_row_from p (suc at) rows) (p row) at e).1
last_none p at (row ∷ rows) e (suc j) h = last_none p (suc at) rows (neither (last_row_from p (suc at) rows) (p row) at e).0 j (omega arith)

pub record LastAt (p : List ℕ → Bool) (at : ℕ) (rows : List (List ℕ)) (i : ℕ) : Type 0 where
  pub after : at ≤ i
  pub inside : i - at < length rows
  pub holds : p (get_or rows (i - at) []) ≡ true
  pub later : (j : ℕ) → i - at < j → j < length rows → p (get_or rows j []) ≡ false

pub last_told : (p : List ℕ → Bool) (at : ℕ) (rows : List (List ℕ)) {i : ℕ} → last_row_from p at rows ≡ Some i → LastAt p at rows i
unfolding last_row_from
last_told p at [] e = absurd (let z : ◌≡◌ {A = ℕ} 0 1 = cc in omega arith)
last_told p at (row ∷ rows) {i} e = go (last_row_from p (suc at) rows) (p row) refl refl e (λ f. last_told p (suc at) rows f)
  where
    go : (o : Option ℕ) (b : Bool) → last_row_from p (suc at) rows ≡ o → p row ≡ b → or_row o (pick b (Some at) None) ≡ Some i →
        (last_row_from p (suc at) rows ≡ Some i → LastAt p (suc at) rows i) → LastAt p at (row ∷ rows) i
    go (Some j) b f g h again =
        let t = again (f ∙ h) in
        let z : i - at ≡ suc (i - suc at) = omega (arith, t.after) in
        record {
          after = omega (arith, t.after);
          inside = rw z (omega (arith, t.inside));
          holds = rw z t.holds;
          later = λ k l m. beyond t z k l m;
        }
      where
        beyond : LastAt p (suc at) rows i → i - at ≡ suc (i - suc at) → (k : ℕ) → i - at < k → k < length (row ∷ rows) →
            p (get_or (row ∷ rows) k []) ≡ false
        beyond t z zero l m = absurd (omega arith)
        beyond t z (suc k) l m = t.later k (omega arith) (omega arith)
    go None true f g h again =
        let y : at ≡ i = cc in
        let z : i - at ≡ 0 = omega arith in
        record { after = omega arith; inside = rw z (omega arith); holds = rw z g; later = λ k l m. beyond f z k l m }
      where
        beyond : last_row_from p (suc at) rows ≡ None → i - at ≡ 0 → (k : ℕ) → i - at < k → k < length (row ∷ rows) →
            p (get_or (row ∷ rows) k []) ≡ false
        beyond f z zero l m = absurd (omega arith)
        beyond f z (suc k) l m = last_none p (suc at) rows f k (omega arith)
    go None false f g h again = absurd (let z : ◌≡◌ {A = ℕ} 0 1 = cc in omega arith)

-- The row that answers for a raw descriptor has it.
pub raw_has : (rows : List (List ℕ)) (pool name : List ℕ) {i : ℕ} → last_raw rows pool name ≡ Some i →
    text_in pool (unpack_class (get_or rows i [])).raw ≡ name
raw_has rows pool name {i} e =
    let z : i - 0 ≡ i = omega arith in
    same_equal (text_in pool (unpack_class (get_or rows i [])).raw) name (rw z at (last_told (has_name Raw pool name) 0 rows e).holds)

-- and is the last that has it
pub raw_last : (rows : List (List ℕ)) (pool name : List ℕ) {i : ℕ} → last_raw rows pool name ≡ Some i →
    last_raw rows pool (text_in pool (unpack_class (get_or rows i [])).raw) ≡ Some i
raw_last rows pool name e = ap (last_raw rows pool) (raw_has rows pool name e) ∙ e
