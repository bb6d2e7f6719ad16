-- A row more on a shelf, and what leaves a shelf as it is. Assumes nothing.
use mathlib.Core.Path.{◌≡◌, sym, ◌∙◌, ap}
use mathlib.Core.Bool.{true}
use mathlib.Core.List.{List, []}
use mathlib.Core.Logic.{◌⊎◌, inl, inr}
use Prim.Native.Nat.{ℕ, ◌+◌, ◌-◌, ◌≤◌, ◌<◌}
use native.Mathlib.Omega.{arith}
use lib.ListN.{length, get_or}
use Rattle.ground.proofs.Cases.{le_or_lt, clash}
use Rattle.table_index.specs.Inner.Order.{at_most}
use Rattle.table_index.specs.Inner.Heads.{head_of}
use Rattle.table_index.specs.Inner.Shelves.{key_at, Ranked, Seat, Shelf, Bound, Inserted}
use Rattle.table_index.proofs.Comparing.{Way, less, even, more, way, most_refl, most_total}

-- Only what stands on a shelf counts.
module _ {keys : List (List ℕ)} {old new : List ℕ} {k a b : ℕ} (size : length new ≡ length old)
    (alike : (i : ℕ) → a ≤ i → i < b → get_or new i 0 ≡ get_or old i 0) where
  ranked_same : Ranked keys old k a b → Ranked keys new k a b
  ranked_same r = record {
    goes = r.goes;
    room = let z = r.room in omega arith;
    only = λ i h l. let e = alike i h l in let o = r.only i h l in omega arith;
    sorted = λ i j h l m.
        ap (λ x. at_most (get_or keys x []) (key_at keys new j)) (alike i h (omega arith))
        ∙ ap (λ x. at_most (key_at keys old i) (get_or keys x [])) (alike j (omega arith) m) ∙ r.sorted i j h l m;
    stable = λ i j h l m e.
        let c = alike i h (omega arith) in
        let d = alike j (omega arith) m in
        let o = r.stable i j h l m (ap (λ x. get_or keys x []) (sym c) ∙ e ∙ ap (λ x. get_or keys x []) d) in
        omega arith;
  }

  pub shelf_same : {ms : List ℕ} {f : ℕ} → Shelf keys ms old k f a b → Shelf keys ms new k f a b
  shelf_same s = record {
    ranked = ranked_same s.ranked;
    all = λ r h e.
        let t = s.all r h e in
        record { place = t.place; after = t.after; before = t.before; here = alike t.place t.after t.before ∙ t.here };
  }

-- there are more rows
pub ranked_wider : {keys : List (List ℕ)} {order : List ℕ} {k n a b : ℕ} → k ≤ n → Ranked keys order k a b →
    Ranked keys order n a b
ranked_wider h r = record {
  goes = r.goes;
  room = r.room;
  only = λ i l m. let o = r.only i l m in omega arith;
  sorted = r.sorted;
  stable = r.stable;
}

-- a row with another head
pub shelf_other : {keys : List (List ℕ)} {ms order : List ℕ} {k f a b : ℕ} → (head_of ms k ≡ f → ⊥) →
    Shelf keys ms order k f a b → Shelf keys ms order (k + 1) f a b
shelf_other {keys} {ms} {order} {k} {f} {a} {b} n s = record {
  ranked = ranked_wider (omega arith) s.ranked;
  all = λ r h e. go r h e (le_or_lt k r);
}
  where
    go : (r : ℕ) → r < k + 1 → head_of ms r ≡ f → (k ≤ r) ⊎ (r < k) → Seat order a b r
    go r h e (inl l) = let z : k ≡ r = omega arith in absurd (n (ap (head_of ms) z ∙ e))
    go r h e (inr l) = s.all r l e

-- The row `k` behind all whose text is at or before its own.
module _ {keys : List (List ℕ)} {ms old new : List ℕ} {k f a b p : ℕ} (s : Shelf keys ms old k f a b) (x : Inserted old new p b k)
    (t : Bound keys old a b (get_or keys k []) p) where
  -- what stands at a place: before, at, or behind the new row
  key_front : (i : ℕ) → i < p → key_at keys new i ≡ key_at keys old i
  key_front i h = ap (λ r. get_or keys r []) (x.front i h)

  key_here : {i : ℕ} → i ≡ p → key_at keys new i ≡ get_or keys k []
  key_here h = ap (λ r. get_or keys r []) (ap (λ j. get_or new j 0) h ∙ x.here)

  key_back : (i : ℕ) → p < i → i < b + 1 → key_at keys new i ≡ key_at keys old (i - 1)
  key_back i h l = ap (λ r. get_or keys r []) (x.back i h (omega arith))

  only_more : (i : ℕ) → Way i p → a ≤ i → i < b + 1 → get_or new i 0 < k + 1
  only_more i (less h) m l =
      let q = t.before in
      let e = x.front i h in
      let o = s.ranked.only i m (omega arith) in
      omega arith
  only_more i (even h) m l = let e = ap (λ j. get_or new j 0) h ∙ x.here in omega arith
  only_more i (more h) m l =
      let q = t.after in
      let e = x.back i h (omega arith) in
      let o = s.ranked.only (i - 1) (omega arith) (omega arith) in
      omega arith

  sorted_more : (i j : ℕ) → Way i p → Way j p → a ≤ i → i < j → j < b + 1 →
      at_most (key_at keys new i) (key_at keys new j) ≡ true
  sorted_more i j (less h) (less g) c l m =
      let q = t.before in
      ap (λ y. at_most y (key_at keys new j)) (key_front i h) ∙ ap (at_most (key_at keys old i)) (key_front j g)
      ∙ s.ranked.sorted i j c l (omega arith)
  sorted_more i j (less h) (even g) c l m =
      ap (λ y. at_most y (key_at keys new j)) (key_front i h) ∙ ap (at_most (key_at keys old i)) (key_here g) ∙ t.below i c h
  sorted_more i j (less h) (more g) c l m =
      ap (λ y. at_most y (key_at keys new j)) (key_front i h) ∙ ap (at_most (key_at keys old i)) (key_back j g m)
      ∙ s.ranked.sorted i (j - 1) c (omega arith) (omega arith)
  sorted_more i j (even h) (more g) c l m =
      ap (λ y. at_most y (key_at keys new j)) (key_here h) ∙ ap (at_most (get_or keys k [])) (key_back j g m)
      ∙ most_total (key_at keys old (j - 1)) (get_or keys k []) (t.above (j - 1) (omega arith) (omega arith))
  sorted_more i j (more h) (more g) c l m =
      let q = t.after in
      ap (λ y. at_most y (key_at keys new j)) (key_back i h (omega arith)) ∙ ap (at_most (key_at keys old (i - 1))) (key_back j g m)
      ∙ s.ranked.sorted (i - 1) (j - 1) (omega arith) (omega arith) (omega arith)
  sorted_more i j (even h) (less g) c l m = absurd (omega arith)
  sorted_more i j (even h) (even g) c l m = absurd (omega arith)
  sorted_more i j (more h) (less g) c l m = absurd (omega arith)
  sorted_more i j (more h) (even g) c l m = absurd (omega arith)

  stable_more : (i j : ℕ) → Way i p → Way j p → a ≤ i → i < j → j < b + 1 →
      key_at keys new i ≡ key_at keys new j → get_or new i 0 < get_or new j 0
  stable_more i j (less h) (less g) c l m e =
      let q = t.before in
      let u = x.front i h in
      let v = x.front j g in
      let o = s.ranked.stable i j c l (omega arith) (sym (key_front i h) ∙ e ∙ key_front j g) in
      omega arith
  stable_more i j (less h) (even g) c l m e =
      let q = t.before in
      let u = x.front i h in
      let v : get_or new j 0 ≡ k = ap (λ n. get_or new n 0) g ∙ x.here in
      let o = s.ranked.only i c (omega arith) in
      omega arith
  stable_more i j (less h) (more g) c l m e =
      let u = x.front i h in
      let v = x.back j g (omega arith) in
      let o = s.ranked.stable i (j - 1) c (omega arith) (omega arith) (sym (key_front i h) ∙ e ∙ key_back j g m) in
      omega arith
  stable_more i j (even h) (more g) c l m e =
      let z : key_at keys old (j - 1) ≡ get_or keys k [] = sym (key_back j g m) ∙ sym e ∙ key_here h in
      clash (ap (λ y. at_most y (get_or keys k [])) z ∙ most_refl (get_or keys k [])) (t.above (j - 1) (omega arith) (omega arith))
  stable_more i j (more h) (more g) c l m e =
      let q = t.after in
      let u = x.back i h (omega arith) in
      let v = x.back j g (omega arith) in
      let o = s.ranked.stable (i - 1) (j - 1) (omega arith) (omega arith) (omega arith)
      (sym (key_back i h (omega arith)) ∙ e ∙ key_back j g m) in
      omega arith
  stable_more i j (even h) (less g) c l m e = absurd (omega arith)
  stable_more i j (even h) (even g) c l m e = absurd (omega arith)
  stable_more i j (more h) (less g) c l m e = absurd (omega arith)
  stable_more i j (more h) (even g) c l m e = absurd (omega arith)

  moved : (r : ℕ) → Seat old a b r → Seat new a (b + 1) r
  moved r u = go (le_or_lt p u.place)
    where
      go : (p ≤ u.place) ⊎ (u.place < p) → Seat new a (b + 1) r
      go (inl h) =
          let c = u.after in
          let d = u.before in
          let z : u.place + 1 - 1 ≡ u.place = omega arith in
          record {
            place = u.place + 1;
            after = omega arith;
            before = omega arith;
            here = x.back (u.place + 1) (omega arith) (omega arith) ∙ ap (λ j. get_or old j 0) z ∙ u.here;
          }
      go (inr h) =
          let d = u.before in
          record { place = u.place; after = u.after; before = omega arith; here = x.front u.place h ∙ u.here }

  all_more : (r : ℕ) → r < k + 1 → head_of ms r ≡ f → (k ≤ r) ⊎ (r < k) → Seat new a (b + 1) r
  all_more r l e (inl h) =
      let q = t.before in
      let z : k ≡ r = omega arith in
      record { place = p; after = t.after; before = omega arith; here = x.here ∙ z }
  all_more r l e (inr h) = moved r (s.all r h e)

  pub shelf_more : b < length old → Shelf keys ms new (k + 1) f a (b + 1)
  shelf_more r = record {
    ranked = record {
      goes = let z = s.ranked.goes in omega arith;
      room = let z = x.size in omega arith;
      only = λ i h l. only_more i (way i p) h l;
      sorted = λ i j h l m. sorted_more i j (way i p) (way j p) h l m;
      stable = λ i j h l m e. stable_more i j (way i p) (way j p) h l m e;
    };
    all = λ n l e. all_more n l e (le_or_lt k n);
  }
