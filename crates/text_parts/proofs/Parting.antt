-- Whether a part of a text is UTF-8, by the table. Assumes nothing.
use mathlib.Core.Path.{◌≡◌, refl, sym, ◌∙◌, ap}
use mathlib.Core.Bool.{Bool, true, false, not}
use mathlib.Core.List.{List, [], ◌∷◌}
use Prim.Native.Nat.{ℕ, zero, suc, ◌+◌, ◌-◌, ◌*◌, ◌/◌, ◌^◌, ◌≤◌, ◌<◌}
use native.Mathlib.Omega.{arith}
use lib.ListN.{length, get_or, take, drop, length-drop}
use lib.Seq.{drop-drop}
use mir.Val.{Fits}
use mir.Syntax.{w64}
use borrow.Author.Tests.{lt-ltb, le-ltb, eq-eqb, ne_eqb, not-true, not-false}
use borrow.Author.Rules.{rules}
use Rattle.ground.specs.Choice.{pick}
use Rattle.ground.specs.Put.{between}
use Rattle.ground.proofs.Cases.{clash}
use Rattle.ground.proofs.Parts.{drop_take}
use Rattle.text_utf8.specs.Utf8.{is_utf8}
use Rattle.text_utf8.specs.Grammar.{Utf8Octets}
use Rattle.text_utf8.proofs.Boundaries.{Fresh, fresh_as}
use Rattle.text_parts.specs.Inner.Reach.{is_tail, tails_up_to, tails_at, valid_to, group_place, group_count, Reached, LongPart, ends_well}
use Rattle.text_parts.proofs.Tails.{tails_inside, tails_fresh, four_break}
use Rattle.text_parts.proofs.Reaching.{utf8_no, part_cut, part_join, valid_extends, ends_told}
use Rattle.text_utf8.proofs.Grammatical.{utf8_octets, octets_utf8}

-- Where a sequence has to end.
module _ (s : List ℕ) (good e : ℕ) where
  pub ends_beyond : good < e → false ≡ ends_well s good e
  ends_beyond h = sym (rw (lt-ltb good e h))

  module _ (h : e ≤ good) where
    pub ends_there : good ≡ e → true ≡ ends_well s good e
    ends_there q = sym (rw (le-ltb good e h, eq-eqb good e q))

    module _ (n : good ≡ e → ⊥) where
      pub ends_inside : good ≤ length s → e < length s
      ends_inside i = go n
        where
          go : (good ≡ e → ⊥) → e < length s
          go m = omega arith

      pub ends_by_tail : {b : Bool} → b ≡ is_tail (get_or s e 0) → not b ≡ ends_well s good e
      ends_by_tail q = ap not q ∙ sym (rw (le-ltb good e h, ne_eqb good e n))

pub ruleset ending_well = (ends_beyond, ends_there, ends_inside, ends_by_tail, rules)

-- The group behind the start of a long part.
pub record Ahead (start group : ℕ) : Type 0 where
  pub after : start < group_place group
  pub near : group_place group ≤ start + 128

pub ahead : (start : ℕ) → Ahead start (start / 128 + 1)
ahead start = record { after = omega arith; near = omega arith }

-- what stands at the head of a part stands at the head of the text there
tails_taken : (n k : ℕ) (l : List ℕ) → n ≤ k → tails_up_to n (take k l) ≡ tails_up_to n l
unfolding tails_up_to
tails_taken zero k l h = refl
tails_taken (suc n) zero l h = absurd (omega arith)
tails_taken (suc n) (suc k) [] h = refl
tails_taken (suc n) (suc k) (x ∷ l) h = ap (λ i. pick (is_tail x) (suc i) 0) (tails_taken n k l (omega arith))

module _ (s reach : List ℕ) (start e : ℕ) (r : Reached s reach) (p : LongPart s start e) where
  abbrev group : ℕ
  group = start / 128 + 1

  abbrev place : ℕ
  place = group * 128

  pub place_inside : place ≤ length s
  place_inside = let l = p.long in let i = p.inside in let a = (ahead start).near in omega arith

  pub part_order : start ≤ e
  part_order = let l = p.long in omega arith

  pub part_inside : e ≤ length s
  part_inside = p.inside

  pub group_fits : length s < 2 ^ 64 → Fits w64 group
  group_fits b = let l = p.long in let i = p.inside in omega arith

  pub place_fits : length s < 2 ^ 64 → Fits w64 place
  place_fits b = let i = place_inside in omega arith

  pub group_inside : group < group_count → group < length reach
  group_inside h = let z = r.size in omega arith

  module _ {t : ℕ} (f : t ≡ tails_at s place) where
    pub four_tails : 4 ≤ t → false ≡ is_utf8 (between s start e)
    four_tails h = sym (utf8_no (between s start e) (λ o. four_break (between s start e) (place - start) (rw there h) o))
      where
        there : tails_at (between s start e) (place - start) ≡ t
        there =
            let l = p.long in
            let a = (ahead start).after in
            let n = (ahead start).near in
            let z : start + (place - start) ≡ place = omega arith in
            ap (tails_up_to 4) (drop_take (place - start) (e - start) (drop start s))
            ∙ tails_taken 4 (e - start - (place - start)) (drop (place - start) (drop start s)) (omega arith)
            ∙ ap (tails_up_to 4) (drop-drop (place - start) start s ∙ ap (λ i. drop i s) z) ∙ sym f

    module _ (n : t < 4) where
      abbrev fresh : ℕ
      fresh = place + t

      pub fresh_order : start ≤ fresh
      fresh_order = let a = (ahead start).after in omega arith

      pub fresh_inside : fresh ≤ length s
      fresh_inside = let i = place_inside in omega (arith, tails_inside 4 (drop place s), f, length-drop place s)

      fresh_before : fresh ≤ e
      fresh_before = let l = p.long in let a = (ahead start).near in omega arith

      pub fresh_fits : length s < 2 ^ 64 → Fits w64 fresh
      fresh_fits b = let i = fresh_inside in omega arith

      begins : Fresh (drop fresh s)
      begins =
          let q : tails_up_to 4 (drop place s) ≡ t = sym f in
          fresh_as (ap (λ i. drop i (drop place s)) q ∙ drop-drop t place s) (tails_fresh 4 (drop place s) (omega arith))

      module _ {b : Bool} (u : b ≡ is_utf8 (between s start fresh)) where
        pub start_broken : not b ≡ true → false ≡ is_utf8 (between s start e)
        start_broken m =
            let no : is_utf8 (between s start fresh) ≡ false = sym u ∙ not-true b m in
            sym (utf8_no (between s start e) (λ o. clash (octets_utf8 (between s start fresh) (part_cut s start fresh e fresh_order fresh_before begins o).0) no))

        module _ (m : not b ≡ false) (h : group < group_count) where
          told : get_or reach group 0 ≡ valid_to s fresh
          told = r.tells group h place_inside (omega arith) ∙ ap (λ i. valid_to s (place + i)) (sym f)

          pub reach_inside : {g : ℕ} → g ≡ get_or reach group 0 → g ≤ length s
          reach_inside q = let i = (valid_extends s fresh fresh_inside).inside in omega (arith, q, told)

          rest : is_utf8 (between s fresh e) ≡ is_utf8 (between s start e)
          rest = go (is_utf8 (between s fresh e)) refl
            where
              yes : Utf8Octets (between s start fresh)
              yes = utf8_octets (between s start fresh) (sym u ∙ not-false b m)

              go : (x : Bool) → is_utf8 (between s fresh e) ≡ x → x ≡ is_utf8 (between s start e)
              go true q = sym (octets_utf8 (between s start e) (part_join s start fresh e fresh_order fresh_before yes (utf8_octets (between s fresh e) q)))
              go false q =
                  sym (utf8_no (between s start e)
                  (λ o. clash (octets_utf8 (between s fresh e) (part_cut s start fresh e fresh_order fresh_before begins o).1) q))

          pub by_table : {g : ℕ} → g ≡ get_or reach group 0 → {z : Bool} → z ≡ ends_well s g e → z ≡ is_utf8 (between s start e)
          by_table q y =
              y ∙ ap (λ i. ends_well s i e) (q ∙ told) ∙ sym (ends_told s (valid_extends s fresh fresh_inside) e fresh_before part_inside) ∙ rest

pub ruleset long_parts = (place_inside, part_order, part_inside, group_fits, place_fits, group_inside, four_tails, fresh_order, fresh_inside, fresh_fits, start_broken, reach_inside, by_table, rules)
