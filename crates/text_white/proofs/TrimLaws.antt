-- White space at a place, and runs of characters at the start of a text. Assumes nothing.
use mathlib.Core.Path.{◌≡◌, refl, sym, ◌∙◌}
use mathlib.Core.Bool.{Bool, true, false}
use mathlib.Core.List.{List, [], ◌∷◌}
use Prim.Native.Nat.{ℕ, zero, suc, ◌+◌, ◌-◌, ◌^◌, ◌≤◌, ◌<◌}
use native.Mathlib.Nat.{add-zero, add_assoc}
use native.Mathlib.Omega.{arith}
use lib.Dec.{eqb, ltb}
use lib.ListN.{length, get_or, drop, length-drop}
use mir.Val.{Fits}
use mir.Syntax.{w64}
use borrow.Author.Tests.{eq-eqb, ne_eqb, lt-ltb, eqb-true}
use borrow.Author.Rules.{rules}
use Rattle.ground.specs.Choice.{pick}
use Rattle.ground.specs.Put.{between}
use Rattle.ground.proofs.Cases.{clash}
use Rattle.ground.proofs.Parts.{take_rest}
use Rattle.text_utf8.specs.declared.sequence.Sequence.{Sequence}
use Rattle.text_utf8.specs.declared.sequence.Sequence.TheVariants.{End, Good, Bad}
use Rattle.text_utf8.specs.Utf8.{lead_of, tails, after_lead, sequence_of, pieces}
use Rattle.text_white.specs.White.{white_ranges, in_ranges, is_white}
use Rattle.text_white.specs.Trim.{run_of, all_white, trim_start, trim_end, trim_both, white_sequence, starts_white}
use Rattle.text_white.specs.Inner.Before.{white_length_of, white_length}
use Rattle.text_utf8.proofs.Sequences.{end_empty, good_fits}
use Rattle.text_utf8.proofs.Threes.{three_here}
use Rattle.text_places.specs.declared.spans.Span.{Span}
use Rattle.text_places.proofs.PlaceLaws.{seeking, backing}
use Rattle.text_utf8.proofs.Pieces.{pieces_none, pieces_good, pieces_past, pieces_on, pieces_bad, good_inside, good_past_fits, good_past_falls}

-- White space at the head of a text, by what was read there.
module _ {t : Sequence} (l : List ℕ) (e : t ≡ sequence_of l) where
  pub length_end : t ≡ End → 0 ≡ white_length l
  length_end g = rw (sym e ∙ g)

  pub length_white : {d m : ℕ} {b : Bool} → t ≡ Good d m → b ≡ is_white d → b ≡ true → m ≡ white_length l
  length_white g w y = rw (sym e ∙ g, sym w ∙ y)

  pub length_other : {d m : ℕ} {b : Bool} → t ≡ Good d m → b ≡ is_white d → b ≡ false → 0 ≡ white_length l
  length_other g w y = rw (sym e ∙ g, sym w ∙ y)

  pub length_bad : {m : ℕ} → t ≡ Bad m → 0 ≡ white_length l
  length_bad g = rw (sym e ∙ g)

pub ruleset white_here = (length_end, length_white, length_other, length_bad, rules)

-- U+3000 by its octets
module _ (s : List ℕ) (at : ℕ) (h : at ≤ length s - 3) where
  pub wide_inside : 3 ≤ length s → at + 2 < length s
  wide_inside l = omega arith

  pub wide_stands : 3 ≤ length s → get_or s at 0 ≡ 0xE3 → get_or s (at + 1) 0 ≡ 0x80 → eqb (get_or s (at + 2) 0) 0x80 ≡ true → sequence_of (drop at s) ≡ Good 0x3000 3
  unfolding sequence_of after_lead lead_of tails
  wide_stands l a b c = rw (three_here s at (omega arith), a, b, eqb-true (get_or s (at + 2) 0) 0x80 c)

pub wide_none : (l : List ℕ) → false ≡ true → sequence_of l ≡ Good 0x3000 3
wide_none l e = clash e refl

pub length_wide : (l : List ℕ) {r : Bool} → (r ≡ true → sequence_of l ≡ Good 0x3000 3) → r ≡ true → 3 ≡ white_length l
unfolding is_white in_ranges white_ranges
length_wide l f e = rw (f e)

pub ruleset wide = (wide_inside, wide_stands, wide_none, rules)

pub ruleset white_long = (length_wide, rules)

-- White space stands there where it has a length.
module _ (l : List ℕ) {r : ℕ} (e : r ≡ white_length l) where
  pub white_none : r ≡ 0 → false ≡ starts_white l
  white_none z = go (sequence_of l) refl (sym e ∙ z)
    where
      go : (t : Sequence) → sequence_of l ≡ t → white_length_of t ≡ 0 → false ≡ white_sequence t
      go End q i = refl
      go (Bad m) q i = refl
      go (Good d m) q i = told (is_white d) i
        where
          told : (b : Bool) → pick b m 0 ≡ 0 → false ≡ b
          told true j = absurd (let f = good_fits l q in omega arith)
          told false j = refl

  pub white_some : (r ≡ 0 → ⊥) → true ≡ starts_white l
  white_some n = go (sequence_of l) (λ z. n (e ∙ z))
    where
      go : (t : Sequence) → (white_length_of t ≡ 0 → ⊥) → true ≡ white_sequence t
      go End m = absurd (m refl)
      go (Bad k) m = absurd (m refl)
      go (Good d k) m = told (is_white d) m
        where
          told : (b : Bool) → (pick b k 0 ≡ 0 → ⊥) → true ≡ b
          told true j = refl
          told false j = absurd (j refl)

-- A run at the start: the run from here on ends where the run of the whole does.
pub record Running (p : ℕ → Bool) (s : List ℕ) (at : ℕ) : Type 0 where
  pub inside : at ≤ length s
  pub decides : at + run_of p (pieces (drop at s)) ≡ run_of p (pieces s)

pub run_starts : (p : ℕ → Bool) (s : List ℕ) → Running p s 0
run_starts p s = record { inside = omega arith; decides = omega arith }

module _ {p : ℕ → Bool} {s : List ℕ} {at : ℕ} (k : Running p s at) where
  pub run_ends : length s ≤ at → at ≡ run_of p (pieces s)
  unfolding run_of
  run_ends h = sym (add-zero at) ∙ (rw (pieces_past s at h) at k.decides)

  module _ {t : Sequence} (e : t ≡ sequence_of (drop at s)) where
    pub run_end : t ≡ End → at ≡ run_of p (pieces s)
    unfolding run_of
    run_end g = sym (add-zero at) ∙ (rw (pieces_none (drop at s) (end_empty (drop at s) (sym e ∙ g))) at k.decides)

    pub run_bad : {m : ℕ} → t ≡ Bad m → at ≡ run_of p (pieces s)
    unfolding run_of
    run_bad g = sym (add-zero at) ∙ (rw (pieces_bad (drop at s) (sym e ∙ g)) at k.decides)

    pub run_stops : {d m : ℕ} → t ≡ Good d m → p d ≡ false → at ≡ run_of p (pieces s)
    unfolding run_of
    run_stops g y = sym (add-zero at) ∙ (rw (pieces_on s at (sym e ∙ g), y) at k.decides)

    pub run_more : {d m : ℕ} → t ≡ Good d m → p d ≡ true → Running p s (at + m)
    unfolding run_of
    run_more g y = record {
      inside = (good_inside s at (sym e ∙ g)).1;
      decides = rw add_assoc (rw (pieces_on s at (sym e ∙ g), y) at k.decides);
    }

    pub run_fits : {d m : ℕ} → length s < 2 ^ 64 → t ≡ Good d m → Fits w64 (at + m)
    run_fits b g = good_past_fits s at b (sym e ∙ g)

    pub run_falls : {d m : ℕ} → t ≡ Good d m → length s - (at + m) < length s - at
    run_falls g = good_past_falls s at (sym e ∙ g)

pub told : (d : ℕ) {b y : Bool} → b ≡ is_white d → b ≡ y → is_white d ≡ y
told d w y = sym w ∙ y

pub mark_here : (d : ℕ) → d ≡ 0xFEFF → eqb 0xFEFF d ≡ true
mark_here d e = eq-eqb 0xFEFF d (sym e)

pub mark_other : (d : ℕ) → (d ≡ 0xFEFF → ⊥) → eqb 0xFEFF d ≡ false
mark_other d n = ne_eqb 0xFEFF d (λ e. n (sym e))

pub ruleset running = (run_starts, run_ends, run_end, run_bad, run_stops, run_more, run_fits, run_falls, told, mark_here, mark_other, rules)

-- The first and the last white space character.
pub told_white : (l : List ℕ) {b y : Bool} → b ≡ starts_white l → b ≡ y → starts_white l ≡ y
told_white l w y = sym w ∙ y

pub ruleset first_white_lem = (told_white, seeking)

pub ruleset last_white_lem = (told_white, backing)

-- A text starts white exactly where its trimmed start is not 0.
pub starts_trimmed : (s : List ℕ) → starts_white s ≡ ltb 0 (trim_start s)
unfolding run_of
starts_trimmed s = go (sequence_of s) refl
  where
    by : (b : Bool) (m r : ℕ) → 0 < m → b ≡ ltb 0 (pick b (m + r) 0)
    by true m r h = sym (lt-ltb 0 (m + r) (omega arith))
    by false m r h = refl

    go : (t : Sequence) → sequence_of s ≡ t → starts_white s ≡ ltb 0 (trim_start s)
    go End e = rw (e, pieces_none s (end_empty s e))
    go (Bad m) e = rw (e, pieces_bad s e)
    go (Good d m) e = rw (e, pieces_good s e) (by (is_white d) m (run_of is_white (pieces (drop m s))) (good_fits s e).0)

-- Trimmed places lie in the text.
run_fuel : (p : ℕ → Bool) (n : ℕ) (l : List ℕ) → length l ≤ n → run_of p (pieces l) ≤ length l
unfolding run_of
run_fuel p zero l h = rw (pieces_none l (omega arith)) (omega arith)
run_fuel p (suc n) l h = go (sequence_of l) refl (λ m. run_fuel p n m)
  where
    by : (b : Bool) (m r k : ℕ) → m ≤ k → r ≤ k - m → pick b (m + r) 0 ≤ k
    by true m r k i j = omega arith
    by false m r k i j = omega arith

    go : (t : Sequence) → sequence_of l ≡ t → ((m : List ℕ) → length m ≤ n → run_of p (pieces m) ≤ length m) → run_of p (pieces l) ≤ length l
    go End e again = rw (pieces_none l (end_empty l e)) (omega arith)
    go (Bad m) e again = rw (pieces_bad l e) (omega arith)
    go (Good d m) e again =
        let f = good_fits l e in
        let g = length-drop m l in
        let a = again (drop m l) (omega arith) in
        rw (pieces_good l e) (by (p d) m (run_of p (pieces (drop m l))) (length l) f.1 (omega arith))

pub run_inside : (p : ℕ → Bool) (l : List ℕ) → run_of p (pieces l) ≤ length l
run_inside p l = run_fuel p (length l) l (omega arith)

pub trim_start_inside : (l : List ℕ) → trim_start l ≤ length l
trim_start_inside l = run_inside is_white l

pub trim_end_inside : (l : List ℕ) → trim_end l ≤ length l
unfolding trim_end
trim_end_inside [] = omega arith
trim_end_inside (x ∷ l) = go (all_white (pieces (x ∷ l))) (trim_end_inside l)
  where
    go : (b : Bool) → trim_end l ≤ length l → pick b 0 (suc (trim_end l)) ≤ suc (length l)
    go true h = omega arith
    go false h = omega arith

module _ (s : List ℕ) {a : ℕ} (e : a ≡ trim_start s) where
  pub both_part : a ≤ length s
  both_part = rw e (trim_start_inside s)

  module _ {n : ℕ} (f : n ≡ trim_end (between s a (length s))) where
    ends : n ≡ trim_end (drop (trim_start s) s)
    ends = f ∙ rw (take_rest s a, e)

    pub both_fits : length s < 2 ^ 64 → Fits w64 (a + n)
    both_fits b =
        let i = trim_start_inside s in
        let j = trim_end_inside (drop (trim_start s) s) in
        let d = length-drop (trim_start s) s in
        let g = ends in omega arith

    pub both_trimmed : record { start = a; «end» = a + n } ≡ trim_both s
    both_trimmed = rw (ends, e)

pub trim_inside : (s : List ℕ) → (trim_both s).«end» ≤ length s
trim_inside s =
    let a = trim_start_inside s in
    let b = trim_end_inside (drop (trim_start s) s) in
    let c = length-drop (trim_start s) s in
    omega arith

pub trim_order : (s : List ℕ) → (trim_both s).start ≤ (trim_both s).«end»
trim_order s = omega arith

-- a span that is told to be the trimmed one
module _ (s : List ℕ) {p : Span} (e : p ≡ trim_both s) where
  pub trimmed_order : p.start ≤ p.«end»
  trimmed_order = rw e (trim_order s)

  pub trimmed_inside : p.«end» ≤ length s
  trimmed_inside = rw e (trim_inside s)
