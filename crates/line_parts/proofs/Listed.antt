-- A method's arguments. Assumes nothing.
use Rattle.std.specs.Prelude.{Option, Some, None}
use mathlib.Core.Path.{◌≡◌, refl, sym, ◌∙◌, ap}
use mathlib.Core.Bool.{Bool, true, false}
use mathlib.Core.List.{List, [], ◌∷◌}
use Prim.Native.Nat.{ℕ, zero, suc, ◌+◌, ◌-◌, ◌^◌, ◌≤◌, ◌<◌}
use native.Mathlib.Omega.{arith}
use lib.Dec.{eqb, ltb}
use lib.ListN.{length, take, drop, length-take, length-drop, drop_of_length-le}
use lib.Seq.{drop-drop}
use mir.Val.{Fits}
use mir.Syntax.{w64}
use borrow.Author.Tests.{eq-eqb, ltb-true, ltb-false}
use borrow.Author.Rules.{rules}
use Rattle.ground.specs.Choice.{pick}
use Rattle.ground.specs.Put.{between}
use Rattle.ground.proofs.Parts.{take_rest, cut_part}
use Rattle.text_places.specs.Places.{first_from, first_where, starts}
use Rattle.text_places.specs.Lines.{onto}
use Rattle.text_places.proofs.PlaceLaws.{first_inside}
use Rattle.text_places.specs.declared.spans.Span.{Span}
use Rattle.text_white.specs.Trim.{trim_both}
use Rattle.text_places.specs.Spans.{is_empty, part_of}
use Rattle.line_parts.specs.Arguments.{comma_parts, filled, arguments_of, Splits}
use Rattle.line_parts.specs.Inner.NextArgument.{gap, first_filled, next_argument, taken_argument}
use Rattle.text_white.proofs.TrimLaws.{trim_inside, trim_order, trimmed_order, trimmed_inside}
use Rattle.line_parts.specs.declared.arguments.NextArgument.{NextArgument}
use Rattle.ground.proofs.Answered.{some_part}

-- The first comma splits.
record Split (at : ℕ) (l : List ℕ) (i : ℕ) : Type 0 where
  past : at ≤ i
  parts : comma_parts l ≡ take (i - at) l ∷ comma_parts (drop (suc (i - at)) l)

split_as : {at : ℕ} {l : List ℕ} {i j : ℕ} → i ≡ j → Split at l i → Split at l j
split_as e s = rw e at s

split_from : (at : ℕ) (l : List ℕ) {i : ℕ} → first_from (starts 0x2C) at l ≡ Some i → Split at l i
unfolding first_from comma_parts
split_from at [] e = absurd (let z : ◌≡◌ {A = ℕ} 0 1 = cc in omega arith)
split_from at (x ∷ l) {i} e = go (eqb x 0x2C) refl (λ f. split_from (suc at) l f) e
  where
    go : (b : Bool) → eqb x 0x2C ≡ b → (first_from (starts 0x2C) (suc at) l ≡ Some i → Split (suc at) l i) → pick b (Some at) (first_from (starts 0x2C) (suc at) l) ≡ Some i → Split at (x ∷ l) i
    go true q again f =
        let here : at ≡ i = cc in
        let z : at - at ≡ 0 = omega arith in
        split_as here (record { past = omega arith; parts = rw (q, z) })
    go false q again f =
        let s = again f in
        let p = s.past in
        let z : i - at ≡ suc (i - suc at) = omega arith in
        record { past = omega arith; parts = rw (q, z, s.parts) }

parts_comma : (l : List ℕ) {i : ℕ} → first_where (starts 0x2C) l ≡ Some i → comma_parts l ≡ take i l ∷ comma_parts (drop (i + 1) l)
parts_comma l {i} e =
    let s = split_from 0 l e in
    let z : i - 0 ≡ i = omega arith in
    let y : suc i ≡ i + 1 = omega arith in
    s.parts ∙ rw (z, y)

none_from : (at : ℕ) (l : List ℕ) → first_from (starts 0x2C) at l ≡ None → comma_parts l ≡ l ∷ []
unfolding first_from comma_parts
none_from at [] e = refl
none_from at (x ∷ l) e = go (eqb x 0x2C) refl (λ f. none_from (suc at) l f) e
  where
    go : (b : Bool) → eqb x 0x2C ≡ b → (first_from (starts 0x2C) (suc at) l ≡ None → comma_parts l ≡ l ∷ []) → pick b (Some at) (first_from (starts 0x2C) (suc at) l) ≡ None →
        pick (eqb x 0x2C) ([] ∷ comma_parts l) (onto x (comma_parts l)) ≡ (x ∷ l) ∷ []
    go true q again f = absurd (let z : ◌≡◌ {A = ℕ} 0 1 = cc in omega arith)
    go false q again f = rw (q, again f)

-- there is always a part
parts_some : (l : List ℕ) → gap (comma_parts l) ≡ 1
unfolding comma_parts
parts_some [] = refl
parts_some (x ∷ l) = go (eqb x 0x2C) (comma_parts l)
  where
    go : (b : Bool) (ps : List (List ℕ)) → gap (pick b ([] ∷ ps) (onto x ps)) ≡ 1
    go true ps = refl
    go false [] = refl
    go false (p ∷ ps) = refl

-- nothing is left
blank_nothing : is_empty (trim_both []) ≡ true
blank_nothing = eq-eqb (trim_both []).start (trim_both []).«end» (let a = trim_inside [] in let b = trim_order [] in omega arith)

none_left : (at : ℕ) → first_filled at (comma_parts []) ≡ None
unfolding first_filled comma_parts
none_left at = rw blank_nothing

-- What stands from here on is what stands from the start.
pub record Passing (s : List ℕ) (start at : ℕ) : Type 0 where
  pub decides : next_argument s start ≡ next_argument s at

pub passing_starts : (s : List ℕ) (start : ℕ) → Passing s start start
passing_starts s start = record { decides = refl }

module _ {s : List ℕ} {start at : ℕ} (k : Passing s start at) where
  pub passing_ends : length s ≤ at → None ≡ next_argument s start
  passing_ends h = sym (k.decides ∙ ap (λ l. first_filled at (comma_parts l)) (drop_of_length-le s h) ∙ none_left at)

  module _ (h : at < length s) {p : Option ℕ} (e : p ≡ first_where (starts 0x2C) (between s at (length s))) where
    comma_is : p ≡ first_where (starts 0x2C) (drop at s)
    comma_is = rw (take_rest s at) at e

    -- the last part
    module _ (g : p ≡ None) {l : Span} (f : l ≡ trim_both (between s at (length s))) where
      last_is : l ≡ trim_both (drop at s)
      last_is = rw (take_rest s at) at f

      last_step : (q : Span) → q ≡ trim_both (drop at s) → next_argument s start ≡ pick (is_empty q) None (Some (taken_argument (at + q.start) (at + q.«end») (length s)))
      unfolding first_filled
      last_step q r =
          let whole : at + length (drop at s) + 0 ≡ length s = omega (arith, length-drop at s) in
          k.decides ∙ ap (first_filled at) (none_from 0 (drop at s) (sym comma_is ∙ g)) ∙ rw (whole, r)

      pub last_blank : {b : Bool} → b ≡ is_empty l → b ≡ true → None ≡ next_argument s start
      last_blank i z = sym (last_step l last_is ∙ rw (sym i ∙ z))

      reach : at + l.«end» ≤ length s
      reach = let a = trimmed_inside (drop at s) last_is in omega (arith, length-drop at s)

      pub last_start_fits : length s < 2 ^ 64 → Fits w64 (at + l.start)
      last_start_fits b = let r = reach in let o = trimmed_order (drop at s) last_is in omega arith

      pub last_end_fits : length s < 2 ^ 64 → Fits w64 (at + l.«end»)
      last_end_fits b = let r = reach in omega arith

      pub last_argument : {b : Bool} → b ≡ is_empty l → b ≡ false → Some (taken_argument (at + l.start) (at + l.«end») (length s)) ≡ next_argument s start
      last_argument i z = sym (last_step l last_is ∙ rw (sym i ∙ z))

    -- a part before a comma
    module _ {comma : ℕ} (g : p ≡ Some comma) where
      ahead : at + comma < length s
      ahead = let i = first_inside (starts 0x2C) (drop at s) (sym comma_is ∙ g) in omega (arith, length-drop at s)

      pub comma_fits : length s < 2 ^ 64 → Fits w64 (at + comma)
      comma_fits b = let a = ahead in omega arith

      pub comma_inside : at + comma ≤ length s
      comma_inside = let a = ahead in omega arith

      pub comma_past : length s < 2 ^ 64 → Fits w64 (at + comma + 1)
      comma_past b = let a = ahead in omega arith

      module _ {l : Span} (f : l ≡ trim_both (between s at (at + comma))) where
        part_is : l ≡ trim_both (take comma (drop at s))
        part_is = let z : at + comma - at ≡ comma = omega arith in rw z at f

        size : length (take comma (drop at s)) ≡ comma
        size = let a = ahead in omega (arith, length-take comma (drop at s), length-drop at s)

        step : (q : Span) → q ≡ trim_both (take comma (drop at s)) →
            next_argument s start ≡ pick (is_empty q) (next_argument s (at + comma + 1)) (Some (taken_argument (at + q.start) (at + q.«end») (at + comma + 1)))
        unfolding first_filled
        step q r =
            let rest : drop (comma + 1) (drop at s) ≡ drop (at + comma + 1) s = let z : at + (comma + 1) ≡ at + comma + 1 = omega arith in rw (drop-drop (comma + 1) at s, z) in
            let more : gap (comma_parts (drop (comma + 1) (drop at s))) ≡ 1 = parts_some (drop (comma + 1) (drop at s)) in
            k.decides ∙ ap (first_filled at) (parts_comma (drop at s) (sym comma_is ∙ g)) ∙ rw (more, size, rest, r)

        pub part_blank : {b : Bool} → b ≡ is_empty l → b ≡ true → Passing s start (at + comma + 1)
        part_blank i z = record { decides = step l part_is ∙ rw (sym i ∙ z) }

        within : at + l.«end» ≤ at + comma
        within = let a = trimmed_inside (take comma (drop at s)) part_is in let z = size in omega arith

        pub part_start_fits : length s < 2 ^ 64 → Fits w64 (at + l.start)
        part_start_fits b = let r = within in let a = ahead in let o = trimmed_order (take comma (drop at s)) part_is in omega arith

        pub part_end_fits : length s < 2 ^ 64 → Fits w64 (at + l.«end»)
        part_end_fits b = let r = within in let a = ahead in omega arith

        pub part_argument : {b : Bool} → b ≡ is_empty l → b ≡ false → Some (taken_argument (at + l.start) (at + l.«end») (at + comma + 1)) ≡ next_argument s start
        part_argument i z = sym (step l part_is ∙ rw (sym i ∙ z))

      pub part_falls : length s - (at + comma + 1) < length s - at
      part_falls = let a = ahead in omega arith

pub ruleset listing =
    (passing_starts, passing_ends, last_blank, last_start_fits, last_end_fits, last_argument, comma_fits, comma_inside, comma_past, part_blank, part_start_fits, part_end_fits, part_argument, part_falls, rules)

-- The arguments of a text are found one after the other.
splits_none : (at : ℕ) (ps : List (List ℕ)) → first_filled at ps ≡ None → filled ps ≡ []
unfolding first_filled filled
splits_none at [] e = refl
splits_none at (p ∷ ps) e = go (is_empty (trim_both p)) refl (λ f. splits_none (at + length p + gap ps) ps f) e
  where
    go : (b : Bool) → is_empty (trim_both p) ≡ b → (first_filled (at + length p + gap ps) ps ≡ None → filled ps ≡ []) →
        pick b (first_filled (at + length p + gap ps) ps) (Some (taken_argument (at + (trim_both p).start) (at + (trim_both p).«end») (at + length p + gap ps))) ≡ None →
        pick (is_empty (trim_both p)) (filled ps) (part_of p (trim_both p) ∷ filled ps) ≡ []
    go true q again f = rw q (again f)
    go false q again f = absurd (let z : ◌≡◌ {A = ℕ} 0 1 = cc in omega arith)

pub arguments_end : (s : List ℕ) (at : ℕ) → next_argument s at ≡ None → arguments_of (drop at s) ≡ []
arguments_end s at e = splits_none at (comma_parts (drop at s)) e

-- nothing but blanks is left at the end of a text
pub no_arguments : arguments_of [] ≡ []
unfolding comma_parts filled
no_arguments = rw blank_nothing

module _ (s : List ℕ) where
  -- by the number of bytes that may be left
  arguments_from : (fuel at : ℕ) → length s - at < fuel → at < length s → {it : NextArgument} → next_argument s at ≡ Some it → Splits s at it.start it.«end» it.next
  unfolding first_filled filled
  arguments_from zero at h l e = absurd (omega arith)
  arguments_from (suc fuel) at h l {it} f = by_comma (λ m i j g. arguments_from fuel m i j g) (first_where (starts 0x2C) (drop at s)) refl
    where
      last : comma_parts (drop at s) ≡ drop at s ∷ [] → (b : Bool) → is_empty (trim_both (drop at s)) ≡ b → Splits s at it.start it.«end» it.next
      last c true q = absurd (let g : None ≡ Some it = sym (ap (first_filled at) c ∙ rw q) ∙ f in let z : ◌≡◌ {A = ℕ} 0 1 = cc in omega arith)
      last c false q =
          let g : Some (taken_argument (at + (trim_both (drop at s)).start) (at + (trim_both (drop at s)).«end») (at + length (drop at s) + 0)) ≡ Some it = sym (ap (first_filled at) c ∙ rw q) ∙ f in
          let starts_at_lem : at + (trim_both (drop at s)).start ≡ it.start = some_part (λ (r : NextArgument). r.start) g in
          let ends_at : at + (trim_both (drop at s)).«end» ≡ it.«end» = some_part (λ (r : NextArgument). r.«end») g in
          let goes_on : at + length (drop at s) + 0 ≡ it.next = some_part (λ (r : NextArgument). r.next) g in
          let o = trim_order (drop at s) in
          let w = trim_inside (drop at s) in
          let d = length-drop at s in
          let whole : part_of (drop at s) (trim_both (drop at s)) ≡ between s it.start it.«end» =
          (let z : it.«end» - it.start ≡ (trim_both (drop at s)).«end» - (trim_both (drop at s)).start = omega arith in rw (z, ← starts_at_lem, drop-drop (trim_both (drop at s)).start at s)) in
          let past_all : length s ≤ it.next = omega arith in
          let rest : arguments_of (drop it.next s) ≡ [] = ap arguments_of (drop_of_length-le s past_all) ∙ no_arguments in
          record {
            order = omega arith;
            ends = omega arith;
            past = omega arith;
            within = omega arith;
            split = ap filled c ∙ rw (q, whole, rest);
          }

      comma : ((m : ℕ) → length s - m < fuel → m < length s → next_argument s m ≡ Some it → Splits s m it.start it.«end» it.next) → (i : ℕ) → at + i < length s → comma_parts (drop at s) ≡ take i (drop at s) ∷ comma_parts (drop (at + i + 1) s) → (b : Bool) → is_empty (trim_both (take i (drop at s))) ≡ b → Splits s at it.start it.«end» it.next
      comma again i k c b q = go b q
        where
          size : length (take i (drop at s)) ≡ i
          size = omega (arith, length-take i (drop at s), length-drop at s)

          go : (x : Bool) → is_empty (trim_both (take i (drop at s))) ≡ x → Splits s at it.start it.«end» it.next
          go true y =
              let g : next_argument s (at + i + 1) ≡ Some it = sym (ap (first_filled at) c ∙ rw (y, parts_some (drop (at + i + 1) s), size)) ∙ f in
              by_rest g (ltb (at + i + 1) (length s)) refl
            where
              by_rest : next_argument s (at + i + 1) ≡ Some it → (t : Bool) → ltb (at + i + 1) (length s) ≡ t → Splits s at it.start it.«end» it.next
              by_rest g true u =
                  let before = ltb-true (at + i + 1) (length s) u in
                  let x = again (at + i + 1) (omega arith) before g in
                  record { order = x.order; ends = x.ends; past = omega (arith, x.past); within = x.within; split = ap filled c ∙ rw y x.split }
              by_rest g false u =
                  let over = ltb-false (at + i + 1) (length s) u in
                  absurd (let v : None ≡ Some it = sym (ap (λ k. first_filled (at + i + 1) (comma_parts k)) (drop_of_length-le s over) ∙ none_left (at + i + 1)) ∙ g in
                  let z : ◌≡◌ {A = ℕ} 0 1 = cc in omega arith)
          go false y =
              let p : Span = trim_both (take i (drop at s)) in
              let g : Some (taken_argument (at + p.start) (at + p.«end») (at + i + 1)) ≡ Some it = sym (ap (first_filled at) c ∙ rw (y, parts_some (drop (at + i + 1) s), size)) ∙ f in
              let starts_at_lem : at + p.start ≡ it.start = some_part (λ (r : NextArgument). r.start) g in
              let ends_at : at + p.«end» ≡ it.«end» = some_part (λ (r : NextArgument). r.«end») g in
              let goes_on : at + i + 1 ≡ it.next = some_part (λ (r : NextArgument). r.next) g in
              let o = trim_order (take i (drop at s)) in
              let w = trim_inside (take i (drop at s)) in
              let z = size in
              let text : part_of (take i (drop at s)) p ≡ between s it.start it.«end» = cut_part s at i p.start p.«end» (omega arith) ∙ rw (starts_at_lem, ends_at) in
              record {
                order = omega arith;
                ends = omega arith;
                past = omega arith;
                within = omega arith;
                split = ap filled c ∙ rw (y, text, goes_on);
              }

      by_comma : ((m : ℕ) → length s - m < fuel → m < length s → next_argument s m ≡ Some it → Splits s m it.start it.«end» it.next) → (p : Option ℕ) → first_where (starts 0x2C) (drop at s) ≡ p → Splits s at it.start it.«end» it.next
      by_comma again None q = last (none_from 0 (drop at s) q) (is_empty (trim_both (drop at s))) refl
      by_comma again (Some i) q =
          let j = first_inside (starts 0x2C) (drop at s) q in
          let z : at + (i + 1) ≡ at + i + 1 = omega arith in
          comma again i (omega (arith, length-drop at s)) (parts_comma (drop at s) q ∙ ap (λ k. take i (drop at s) ∷ comma_parts k) (drop-drop (i + 1) at s ∙ ap (λ k. drop k s) z))
          (is_empty (trim_both (take i (drop at s)))) refl

  pub arguments_split : (at : ℕ) {x : NextArgument} → at < length s → next_argument s at ≡ Some x → Splits s at x.start x.«end» x.next
  arguments_split at h f = arguments_from (suc (length s - at)) at (omega arith) h f
