-- The first place of a byte, in a text and in what it is cut to. Assumes nothing.
use Rattle.std.specs.Prelude.{Option, Some, None}
use mathlib.Core.Path.{◌≡◌, refl, sym, ◌∙◌, ap}
use mathlib.Core.Bool.{Bool, true, false}
use mathlib.Core.List.{List, [], ◌∷◌}
use Prim.Native.Nat.{ℕ, zero, suc, ◌+◌, ◌-◌, ◌≤◌, ◌<◌}
use native.Mathlib.Omega.{arith}
use lib.Dec.{eqb}
use lib.ListN.{length, get_or, take, drop, length-drop}
use lib.Seq.{length-take-le, get_or-take, get_or-drop}
use borrow.Author.Tests.{eqb-false}
use Rattle.ground.specs.Choice.{pick}
use Rattle.ground.specs.Put.{between}
use Rattle.text_places.specs.Places.{first_from, first_where, starts}
use Rattle.text_places.specs.Inner.Blocks.{Without}
use Rattle.text_places.proofs.PlaceLaws.{first_inside, seeking_ends, seeking_found, byte_here}
use Rattle.text_places.proofs.BlockLaws.{seek_blocks}
use Rattle.text_places.proofs.Holds.{first_is}
use Rattle.apply_pieces.specs.Inner.Within.{FirstAt}
use Rattle.ground.proofs.Parts.{between_byte}

-- What a search says of the bytes that it passed.
none_passed : (b at : ℕ) (l : List ℕ) → first_from (starts b) at l ≡ None → (k : ℕ) → k < length l → get_or l k 0 ≡ b → ⊥
unfolding first_from
none_passed b at [] e k h = absurd (omega arith)
none_passed b at (x ∷ l) e k h = go (eqb x b) refl (none_passed b (suc at) l) e k h
  where
    go : (t : Bool) → eqb x b ≡ t →
        (first_from (starts b) (suc at) l ≡ None → (j : ℕ) → j < length l → get_or l j 0 ≡ b → ⊥) →
        pick t (Some at) (first_from (starts b) (suc at) l) ≡ None → (j : ℕ) → j < suc (length l) → get_or (x ∷ l) j 0 ≡ b → ⊥
    go true q again f j i = absurd (let z : ◌≡◌ {A = ℕ} 0 1 = cc in omega arith)
    go false q again f zero i = eqb-false x b q
    go false q again f (suc j) i = again f j (omega arith)

before_found : (b at : ℕ) (l : List ℕ) {i : ℕ} → first_from (starts b) at l ≡ Some i → (k : ℕ) → at + k < i → get_or l k 0 ≡ b → ⊥
unfolding first_from
before_found b at [] e k h = absurd (let z : ◌≡◌ {A = ℕ} 0 1 = cc in omega arith)
before_found b at (x ∷ l) {i} e k h = go (eqb x b) refl (before_found b (suc at) l) e k h
  where
    go : (t : Bool) → eqb x b ≡ t →
        (first_from (starts b) (suc at) l ≡ Some i → (j : ℕ) → suc at + j < i → get_or l j 0 ≡ b → ⊥) →
        pick t (Some at) (first_from (starts b) (suc at) l) ≡ Some i → (j : ℕ) → at + j < i → get_or (x ∷ l) j 0 ≡ b → ⊥
    go true q again f j u = let z : at ≡ i = cc in absurd (omega arith)
    go false q again f zero u = eqb-false x b q
    go false q again f (suc j) u = again f j (omega arith)

-- A search from one place up to another.
module _
    (b : ℕ) (s : List ℕ) (a stop : ℕ) (i : a ≤ stop) (j : stop ≤ length s) {p : Option ℕ}
    (e : p ≡ first_where (starts b) (between s a stop)) where
  part_size : length (between s a stop) ≡ stop - a
  part_size = length-take-le (stop - a) (drop a s) (omega (arith, length-drop a s))

  pub told_none : p ≡ None → Without b s a stop
  told_none f = record {
    goes = omega arith;
    inside = j;
    each = λ k l u w.
        none_passed b 0 (between s a stop) (sym e ∙ f) (k - a) (omega (arith, part_size)) (between_byte s a stop k l u ∙ w);
  }

  module _ {n : ℕ} (f : p ≡ Some n) where
    pub told_within : a + n < stop
    told_within = let h = first_inside (starts b) (between s a stop) (sym e ∙ f) in omega (arith, part_size)

    pub told_first : FirstAt b s a (a + n)
    told_first =
        let h = told_within in
        let z : a + n - a ≡ n = omega arith in
        record {
          before = record {
            goes = omega arith;
            inside = omega arith;
            each = λ k l u w.
                before_found b 0 (between s a stop) (sym e ∙ f) (k - a) (omega arith) (between_byte s a stop k l (omega arith) ∙ w);
          };
          inside = omega arith;
          there =
              sym (between_byte s a stop (a + n) (omega arith) h) ∙ ap (λ m. get_or (between s a stop) m 0) z
              ∙ first_is b (between s a stop) (sym e ∙ f);
        }

-- What stands first is found.
module _ {b : ℕ} {s : List ℕ} {a : ℕ} where
  from_there : {i : ℕ} → Without b s a i → Without b (drop a s) 0 (i - a)
  from_there w = record {
    goes = omega arith;
    inside = omega (arith, w.inside, length-drop a s);
    each = λ k l u e. w.each (a + k) (omega arith) (omega (arith, w.goes)) (sym (get_or-drop a s k 0) ∙ e);
  }

  pub found_none : Without b s a (length s) → first_where (starts b) (drop a s) ≡ None
  found_none w = sym (seeking_ends (seek_blocks (from_there w)) (omega (arith, length-drop a s)))

  pub found_first : {i : ℕ} → FirstAt b s a i → first_where (starts b) (drop a s) ≡ Some (i - a)
  found_first {i} f =
      let inside : i - a < length (drop a s) = omega (arith, f.inside, f.before.goes, length-drop a s) in
      let z : a + (i - a) ≡ i = omega (arith, f.before.goes) in
      sym (seeking_found (seek_blocks (from_there f.before)) inside
      (byte_here b (drop a s) (i - a) inside (get_or-drop a s (i - a) 0 ∙ ap (λ k. get_or s k 0) z ∙ f.there)))

-- Where a text is cut.
module _ {b : ℕ} {s : List ℕ} {a i : ℕ} where
  pub without_cut : Without b s a i → (e : ℕ) → i ≤ e → e ≤ length s → Without b (take e s) a i
  without_cut w e h j = record {
    goes = w.goes;
    inside = omega (arith, length-take-le e s j);
    each = λ k l u q. w.each k l u (sym (get_or-take e s k 0 (omega arith)) ∙ q);
  }

  -- inside the stretch
  pub without_up_to : Without b s a i → (e : ℕ) → a ≤ e → e ≤ i → Without b (take e s) a (length (take e s))
  without_up_to w e h j =
      let size : length (take e s) ≡ e = length-take-le e s (omega (arith, w.inside)) in
      record {
        goes = omega (arith, size);
        inside = omega arith;
        each = λ k l u q.
            let near : k < e = omega (arith, size) in
            w.each k l (omega arith) (sym (get_or-take e s k 0 near) ∙ q);
      }

  pub first_cut : FirstAt b s a i → (e : ℕ) → i < e → e ≤ length s → FirstAt b (take e s) a i
  first_cut f e h j = record {
    before = without_cut f.before e (omega arith) j;
    inside = omega (arith, length-take-le e s j);
    there = get_or-take e s i 0 h ∙ f.there;
  }
