-- The table of how far a text is UTF-8, group by group. Assumes nothing.
use Rattle.std.specs.Prelude.{Result, Ok, Err}
use mathlib.Core.Path.{◌≡◌, refl, sym, ◌∙◌, ap}
use mathlib.Core.Bool.{Bool, true, false, not}
use mathlib.Core.List.{List, [], ◌∷◌}
use mathlib.Core.Logic.{◌⊎◌, inl, inr}
use Prim.Native.Nat.{ℕ, zero, suc, ◌+◌, ◌-◌, ◌^◌, ◌≤◌, ◌<◌}
use native.Mathlib.Omega.{arith}
use lib.ListN.{length, get_or, set, drop, length-drop, drop_of_length-le, length-set}
use lib.Seq.{drop-cons, drop-drop, get_or-set_same, get_or-set_other}
use mir.Val.{Fits}
use mir.Syntax.{w32, w64}
use borrow.Author.Tests.{not-true, not-false}
use borrow.Author.Rules.{rules}
use Rattle.ground.specs.Choice.{pick}
use Rattle.ground.specs.Put.{between}
use Rattle.ground.proofs.Cases.{le_or_lt}
use Rattle.ground.proofs.Parts.{take_rest}
use Rattle.text_utf8.specs.Utf8.{check_of, broken}
use Rattle.text_utf8.proofs.Boundaries.{Fresh, fresh_as}
use Rattle.text_parts.specs.Inner.Reach.{is_tail, tails_up_to, tails_at, valid_to, Begun, group_place, group_count, ReachedTo}
use Rattle.text_parts.proofs.Tails.{tail_low, tail_upper, tails_inside, tails_fresh}
use Rattle.text_parts.proofs.Reaching.{valid_extends, moved_on}
use Rattle.text_utf8.specs.declared.check.Broken.{Broken}

pub ruleset tail_byte = (tail_low, tail_upper, rules)

-- Octets that only continue, one after the other.
pub record Tailing (s : List ℕ) (at count next : ℕ) : Type 0 where
  pub few : count ≤ 4
  pub place : next ≡ at + count
  pub inside : next ≤ length s
  pub decides : tails_up_to 4 (drop at s) ≡ count + tails_up_to (4 - count) (drop next s)

pub tailing_starts : (s : List ℕ) (at : ℕ) → at ≤ length s → Tailing s at 0 at
tailing_starts s at h = let z : 4 - 0 ≡ 4 = omega arith in record { few = omega arith; place = omega arith; inside = h; decides = rw z (omega arith) }

none_up_to : (n : ℕ) → tails_up_to n [] ≡ 0
unfolding tails_up_to
none_up_to zero = refl
none_up_to (suc n) = refl

one_up_to : (n x : ℕ) (l : List ℕ) → tails_up_to (suc n) (x ∷ l) ≡ pick (is_tail x) (suc (tails_up_to n l)) 0
unfolding tails_up_to
one_up_to n x l = refl

zero_up_to : (l : List ℕ) → tails_up_to 0 l ≡ 0
unfolding tails_up_to
zero_up_to l = refl

module _ {s : List ℕ} {at count next : ℕ} (k : Tailing s at count next) where
  pub tailing_past : length s ≤ next → count ≡ tails_at s at
  tailing_past h = let z = none_up_to (4 - count) in let e : tails_up_to (4 - count) (drop next s) ≡ 0 = rw (drop_of_length-le s h) z in omega (arith, k.decides)

  pub tailing_full : 4 ≤ count → count ≡ tails_at s at
  tailing_full h =
      let f = k.few in
      let z : 4 - count ≡ 0 = omega arith in
      let e : tails_up_to (4 - count) (drop next s) ≡ 0 = rw z (zero_up_to (drop next s)) in
      omega (arith, k.decides)

  module _ (c : count < 4) (h : next < length s) where
    step : tails_up_to (4 - count) (drop next s) ≡ pick (is_tail (get_or s next 0)) (suc (tails_up_to (4 - (count + 1)) (drop (suc next) s))) 0
    step =
        let z : 4 - count ≡ suc (4 - (count + 1)) = omega arith in
        rw (z, drop-cons s next 0 h) (one_up_to (4 - (count + 1)) (get_or s next 0) (drop (suc next) s))

    pub tailing_ends : {b : Bool} → b ≡ is_tail (get_or s next 0) → not b ≡ true → count ≡ tails_at s at
    tailing_ends {b} e n = let z : tails_up_to (4 - count) (drop next s) ≡ 0 = step ∙ rw (sym e ∙ not-true b n) refl in omega (arith, k.decides)

    pub tailing_more : {b : Bool} → b ≡ is_tail (get_or s next 0) → not b ≡ false → Tailing s at (count + 1) (next + 1)
    tailing_more {b} e n =
        let y : next + 1 ≡ suc next = omega arith in
        let z : tails_up_to (4 - count) (drop next s) ≡ suc (tails_up_to (4 - (count + 1)) (drop (next + 1) s)) = step ∙ rw (sym e ∙ not-false b n, y) refl in
        record { few = omega arith; place = omega (arith, k.place); inside = omega arith; decides = k.decides ∙ (let w : count + tails_up_to (4 - count) (drop next s) ≡ count + 1 + tails_up_to (4 - (count + 1)) (drop (next + 1) s) = omega (arith, z) in w) }

    pub tailing_fits : length s < 2 ^ 64 → Fits w64 (next + 1)
    tailing_fits b = omega arith

pub ruleset tailing = (tailing_starts, tailing_past, tailing_full, tailing_ends, tailing_more, tailing_fits, rules)

-- How far, by what the check of the rest says.
module _ (s : List ℕ) (at : ℕ) (h : at ≤ length s) {o : Result Unit Broken} (e : o ≡ check_of (between s at (length s))) where
  is : check_of (drop at s) ≡ o
  is = ap check_of (sym (take_rest s at)) ∙ sym e

  pub valid_all : o ≡ Ok tt → length s ≡ valid_to s at
  valid_all f = let z : at + (length s - at) ≡ length s = omega arith in sym (rw (is ∙ f) z)

  module _ {x : Broken} (f : o ≡ Err x) where
    pub valid_part : at + x.at ≡ valid_to s at
    valid_part = sym (rw (is ∙ f))

    pub valid_fits : length s < 2 ^ 64 → Fits w64 (at + x.at)
    valid_fits b = let i = (valid_extends s at h).inside in let z = valid_part in omega arith

pub ruleset validating = (valid_all, valid_part, valid_fits, rules)

-- What was read is not read again.
pub begun_known : (s : List ℕ) (at good : ℕ) → Begun s at good → at ≤ length s → Fresh (drop at s) → at ≤ good → good ≡ valid_to s at
begun_known s at good b h f k =
    let e = b.stops in
    e ∙ moved_on s b.start at b.inside b.before (omega (arith, e)) f

pub ruleset reaching = (begun_known, rules)

-- Group by group.
pub record Marking (s reach : List ℕ) (group place good : ℕ) : Type 0 where
  pub here : place ≡ group_place group
  pub few : group ≤ group_count
  pub short : length s < 2 ^ 32
  pub begun : Begun s place good
  pub done : ReachedTo group s reach

pub marking_starts : (s reach : List ℕ) → length reach ≡ group_count → length s < 2 ^ 32 → {good : ℕ} → good ≡ valid_to s 0 → Marking s reach 0 0 good
marking_starts s reach z h e =
    record {
      here = omega arith;
      few = omega arith;
      short = h;
      begun = record { start = 0; before = omega arith; inside = omega arith; stops = e };
      done = record { size = z; tells = λ g k p q. absurd (omega arith) };
    }

module _ {s reach : List ℕ} {group place good : ℕ} (k : Marking s reach group place good) where
  pub marking_ends : group_count ≤ group → ReachedTo group_count s reach
  marking_ends h = let f = k.few in let z : group ≡ group_count = omega arith in rw z at k.done

  -- no group behind the text's end is asked
  pub marking_past : length s < place → ReachedTo group_count s reach
  marking_past h = record { size = k.done.size; tells = λ g l p q. go g p q (le_or_lt group g) }
    where
      go : (g : ℕ) → group_place g ≤ length s → tails_at s (group_place g) < 4 → (group ≤ g) ⊎ (g < group) → get_or reach g 0 ≡ valid_to s (group_place g + tails_at s (group_place g))
      go g p q (inl m) = let e = k.here in absurd (omega arith)
      go g p q (inr m) = k.done.tells g m p q

  module _ (c : group < group_count) (h : place ≤ length s) where
    pub marking_inside : group < length reach
    marking_inside = let z = k.done.size in omega arith

    pub group_fits : Fits w64 (group + 1)
    group_fits = omega arith

    pub place_fits : Fits w64 (place + 128)
    place_fits = let b = k.short in omega arith

    module _ {t : ℕ} (e : t ≡ tails_at s place) where
      -- four that only continue: nothing is said
      pub marking_skips : 4 ≤ t → Marking s reach (group + 1) (place + 128) good
      marking_skips n =
          let p = k.here in
          let b = k.begun in
          record {
            here = omega arith;
            few = omega arith;
            short = k.short;
            begun = record { start = b.start; before = omega (arith, b.before); inside = b.inside; stops = b.stops };
            done = record { size = k.done.size; tells = λ g l u q. go g u q (le_or_lt group g) l };
          }
        where
          go : (g : ℕ) → group_place g ≤ length s → tails_at s (group_place g) < 4 → (group ≤ g) ⊎ (g < group) → g < group + 1 →
              get_or reach g 0 ≡ valid_to s (group_place g + tails_at s (group_place g))
          go g u q (inl m) l =
              let p = k.here in
              let z : group_place g ≡ place = omega arith in
              absurd (let y : tails_at s (group_place g) ≡ t = ap (tails_at s) z ∙ sym e in omega arith)
          go g u q (inr m) l = k.done.tells g m u q

      module _ (n : t < 4) where
        pub fresh_inside : place + t ≤ length s
        fresh_inside = let i = tails_inside 4 (drop place s) in omega (arith, e, length-drop place s)

        pub fresh_fits : Fits w64 (place + t)
        fresh_fits = let b = k.short in omega arith

        pub fresh_there : Fresh (drop (place + t) s)
        fresh_there =
            let q : tails_up_to 4 (drop place s) ≡ t = sym e in
            fresh_as (ap (λ i. drop i (drop place s)) q ∙ drop-drop t place s) (tails_fresh 4 (drop place s) (omega arith))

        pub begun_there : Begun s (place + t) good
        begun_there = let b = k.begun in record { start = b.start; before = omega (arith, b.before); inside = b.inside; stops = b.stops }

        module _ {g₁ : ℕ} (f : g₁ ≡ valid_to s (place + t)) where
          pub reach_fits : Fits w32 g₁
          reach_fits = let i = (valid_extends s (place + t) fresh_inside).inside in let b = k.short in omega (arith, f)

          pub marking_more : Marking s (set reach group g₁) (group + 1) (place + 128) g₁
          marking_more =
              let p = k.here in
              let z = k.done.size in
              record {
                here = omega arith;
                few = omega arith;
                short = k.short;
                begun = record { start = place + t; before = omega arith; inside = fresh_inside; stops = f };
                done = record { size = length-set reach group g₁ ∙ z; tells = λ g l u q. go g u q (le_or_lt group g) l };
              }
            where
              go : (g : ℕ) → group_place g ≤ length s → tails_at s (group_place g) < 4 → (group ≤ g) ⊎ (g < group) → g < group + 1 →
                  get_or (set reach group g₁) g 0 ≡ valid_to s (group_place g + tails_at s (group_place g))
              go g u q (inl m) l =
                  let p = k.here in
                  let z : g ≡ group = omega arith in
                  let y : group_place g ≡ place = omega arith in
                  rw z (get_or-set_same reach group g₁ 0 marking_inside) ∙ f ∙ ap (λ i. valid_to s (place + i)) e ∙ ap (λ i. valid_to s (i + tails_at s i)) (sym y)
              go g u q (inr m) l = get_or-set_other reach group g g₁ 0 (λ z. absurd (omega arith)) ∙ k.done.tells g m u q

pub ruleset marking = (marking_starts, marking_ends, marking_past, marking_inside, group_fits, place_fits, marking_skips, fresh_inside, fresh_fits, fresh_there, begun_there, reach_fits, marking_more, rules)
