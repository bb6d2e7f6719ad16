-- Well-formed text stays well formed where it is trimmed, split at white space, at an ASCII byte, and into lines. Assumes nothing.
use Rattle.std.specs.Prelude.{Some}
use mathlib.Core.Path.{◌≡◌, refl, sym, ◌∙◌, ap}
use mathlib.Core.Bool.{Bool, true, false}
use mathlib.Core.List.{List, [], ◌∷◌, ◌++◌, map, append-nil, append_assoc}
use mathlib.Core.Logic.{◌⊎◌, inl, inr}
use Prim.Native.Nat.{ℕ, zero, suc, ◌+◌, ◌-◌, ◌≤◌, ◌<◌}
use native.Mathlib.Omega.{arith}
use lib.Dec.{eqb}
use lib.ListN.{length, take, drop, length-drop}
use lib.Seq.{drop-drop}
use borrow.Author.Tests.{eqb-true, eqb-false, ne_eqb}
use Rattle.ground.specs.Choice.{pick, both}
use Rattle.ground.proofs.Cases.{both_right, clash}
use Rattle.text_places.specs.Lines.{onto, raw_lines, cr_end, without_cr, lines}
use Rattle.text_places.specs.Spans.{part_of}
use Rattle.text_places.proofs.Holds.{first_holds, last_holds}
use Rattle.text_utf8.specs.declared.sequence.Sequence.{Sequence}
use Rattle.text_utf8.specs.declared.sequence.Sequence.TheVariants.{End, Good, Bad}
use Rattle.text_utf8.specs.Grammar.{Utf8Octets}
use Rattle.text_utf8.specs.Utf8.{sequence_of, pieces}
use Rattle.text_utf8.proofs.Sequences.{end_empty, good_fits}
use Rattle.text_utf8.proofs.Pieces.{pieces_none, pieces_good, pieces_bad}
use Rattle.text_utf8.proofs.Boundaries.{octets_as, Texts, no_text, text, Fresh, at_end, at_low, fresh_good, good_rest, take_octets, tail_octets, cut_octets}
use Rattle.text_white.specs.Trim.{run_of, all_white, trim_start, trim_end, trim_both, white_sequence, starts_white, first_white, last_white}
use Rattle.text_white.specs.White.{is_white}

-- Runs at the start: white space, and leading U+FEFF.
run_fuel : (p : ℕ → Bool) (n : ℕ) (l : List ℕ) → length l ≤ n → Utf8Octets l → Utf8Octets (drop (run_of p (pieces l)) l)
unfolding run_of
run_fuel p zero l h o = octets_as (sym (ap (λ ps. drop (run_of p ps) l) (pieces_none l (omega arith)))) o
run_fuel p (suc n) l h o = go (sequence_of l) refl (λ m. run_fuel p n m)
  where
    by : (b : Bool) (m : ℕ) → Utf8Octets (drop (run_of p (pieces (drop m l))) (drop m l)) → Utf8Octets (drop (pick b (m + run_of p (pieces (drop m l))) 0) l)
    by true m w = octets_as (drop-drop (run_of p (pieces (drop m l))) m l) w
    by false m w = o

    go : (t : Sequence) → sequence_of l ≡ t → ((m : List ℕ) → length m ≤ n → Utf8Octets m → Utf8Octets (drop (run_of p (pieces m)) m)) →
        Utf8Octets (drop (run_of p (pieces l)) l)
    go End e again = octets_as (sym (ap (λ ps. drop (run_of p ps) l) (pieces_none l (end_empty l e)))) o
    go (Bad m) e again = octets_as (sym (ap (λ ps. drop (run_of p ps) l) (pieces_bad l e))) o
    go (Good d m) e again =
        let f = good_fits l e in
        let g = length-drop m l in
        octets_as (sym (ap (λ ps. drop (run_of p ps) l) (pieces_good l e)))
        (by (p d) m (again (drop m l) (omega arith) (good_rest l e o)))

-- what is left after the characters at the head for which a test holds
pub run_octets : (p : ℕ → Bool) {l : List ℕ} → Utf8Octets l → Utf8Octets (drop (run_of p (pieces l)) l)
run_octets p {l} o = run_fuel p (length l) l (omega arith) o

-- The end.
trimmed_white : (s : List ℕ) → all_white (pieces (drop (trim_end s) s)) ≡ true
unfolding trim_end all_white
trimmed_white [] = rw (pieces_none [] refl)
trimmed_white (x ∷ s) = go (all_white (pieces (x ∷ s))) refl (trimmed_white s)
  where
    go : (b : Bool) → all_white (pieces (x ∷ s)) ≡ b → all_white (pieces (drop (trim_end s) s)) ≡ true →
        all_white (pieces (drop (pick b 0 (suc (trim_end s))) (x ∷ s))) ≡ true
    go true e w = e
    go false e w = w

no_byte : (l : List ℕ) → length l ≡ 0 → Fresh l
no_byte [] e = at_end
no_byte (x ∷ l) e = absurd (omega arith)

white_fresh : (l : List ℕ) → all_white (pieces l) ≡ true → Fresh l
unfolding all_white
white_fresh l w = go (sequence_of l) refl
  where
    go : (t : Sequence) → sequence_of l ≡ t → Fresh l
    go End e = no_byte l (end_empty l e)
    go (Good d m) e = fresh_good l e
    go (Bad m) e = clash (rw (pieces_bad l e) at w) refl

pub trim_end_fresh : (s : List ℕ) → Fresh (drop (trim_end s) s)
trim_end_fresh s = white_fresh (drop (trim_end s) s) (trimmed_white s)

pub trim_end_octets : {s : List ℕ} → Utf8Octets s → Utf8Octets (take (trim_end s) s)
trim_end_octets {s} o = take_octets o (trim_end s) (trim_end_fresh s)

-- Both ends.
pub trim_octets : {s : List ℕ} → Utf8Octets s → Utf8Octets (part_of s (trim_both s))
trim_octets {s} o =
    let z : (trim_both s).«end» - (trim_both s).start ≡ trim_end (drop (trim_start s) s) = omega arith in
    octets_as (ap (λ n. take n (drop (trim_start s) s)) (sym z)) (trim_end_octets (run_octets is_white o))

-- A white space character that was found.
starts_fresh : (l : List ℕ) → starts_white l ≡ true → Fresh l
starts_fresh l w = go (sequence_of l) refl w
  where
    go : (t : Sequence) → sequence_of l ≡ t → white_sequence t ≡ true → Fresh l
    go End e v = clash v refl
    go (Good d m) e v = fresh_good l e
    go (Bad m) e v = clash v refl

pub first_white_fresh : (s : List ℕ) {i : ℕ} → first_white s ≡ Some i → Fresh (drop i s)
first_white_fresh s {i} e = starts_fresh (drop i s) (first_holds starts_white s e)

pub last_white_fresh : (s : List ℕ) {i : ℕ} → last_white s ≡ Some i → Fresh (drop i s)
last_white_fresh s {i} e = starts_fresh (drop i s) (last_holds starts_white s e)

-- Splitting at every ASCII byte `c`. `p` is what was read since the last one.
unfoldable ontos : List ℕ → List (List ℕ) → List (List ℕ)
ontos [] ls = ls
ontos (x ∷ p) ls = onto x (ontos p ls)

ontos_line : (p l : List ℕ) (ls : List (List ℕ)) → ontos p (l ∷ ls) ≡ (p ++ l) ∷ ls
unfolding ontos
ontos_line [] l ls = refl
ontos_line (x ∷ p) l ls = ap (onto x) (ontos_line p l ls)

ontos_more : (p : List ℕ) (b : ℕ) (ls : List (List ℕ)) → ontos (p ++ (b ∷ [])) ls ≡ ontos p (onto b ls)
unfolding ontos
ontos_more [] b ls = refl
ontos_more (x ∷ p) b ls = ap (onto x) (ontos_more p b ls)

ontos_none : (x : ℕ) (p : List ℕ) → ontos (x ∷ p) [] ≡ (x ∷ p) ∷ []
unfolding ontos
ontos_none x [] = refl
ontos_none x (y ∷ p) = ap (onto x) (ontos_none y p)

pub texts_as : {a b : List (List ℕ)} → a ≡ b → Texts a → Texts b
texts_as e t = rw e at t

-- a rule that splits so; at the end it opens one more part, or does not
pub record Splitting (c : ℕ) (f : List ℕ → List (List ℕ)) : Type 0 where
  pub ascii : c < 0x80
  pub ends : (f [] ≡ []) ⊎ (f [] ≡ [] ∷ [])
  pub splits : (s : List ℕ) → f (c ∷ s) ≡ [] ∷ f s
  pub stays : (b : ℕ) (s : List ℕ) → (b ≡ c → ⊥) → f (b ∷ s) ≡ onto b (f s)

-- the last part
last_part : (p : List ℕ) {ls : List (List ℕ)} → (ls ≡ []) ⊎ (ls ≡ [] ∷ []) → Utf8Octets p → Texts (ontos p ls)
unfolding ontos
last_part [] (inl e) o = texts_as (sym e) no_text
last_part (x ∷ p) (inl e) o = texts_as (sym (ap (ontos (x ∷ p)) e ∙ ontos_none x p)) (text o no_text)
last_part p (inr e) o = texts_as (sym (ap (ontos p) e ∙ ontos_line p [] [])) (text (octets_as (sym (append-nil p)) o) no_text)

module _ {c : ℕ} {f : List ℕ → List (List ℕ)} (r : Splitting c f) where
  split_here : (p : List ℕ) (b : ℕ) (s : List ℕ) → b ≡ c → Utf8Octets (p ++ (b ∷ s)) → (Utf8Octets s → Texts (ontos [] (f s))) → Texts (ontos p (f (b ∷ s)))
  unfolding ontos
  split_here p b s e o later =
      let l = r.ascii in
      let (before, after) = cut_octets p (b ∷ s) (at_low (omega arith)) o in
      texts_as (sym (ap (λ x. ontos p (f (x ∷ s))) e ∙ ap (ontos p) (r.splits s) ∙ ontos_line p [] (f s)))
      (text (octets_as (sym (append-nil p)) before) (later (tail_octets b s (omega arith) after)))

  split_from : (p s : List ℕ) → Utf8Octets (p ++ s) → Texts (ontos p (f s))
  split_from p [] o = last_part p r.ends (octets_as (append-nil p) o)
  split_from p (b ∷ s) o = go (eqb b c) refl (split_from [] s) (split_from (p ++ (b ∷ [])) s)
    where
      go : (t : Bool) → eqb b c ≡ t → (Utf8Octets s → Texts (ontos [] (f s))) → (Utf8Octets ((p ++ (b ∷ [])) ++ s) → Texts (ontos (p ++ (b ∷ [])) (f s))) →
          Texts (ontos p (f (b ∷ s)))
      go true e later again = split_here p b s (eqb-true b c e) o later
      go false e later again =
          texts_as (ontos_more p b (f s) ∙ ap (ontos p) (sym (r.stays b s (eqb-false b c e)))) (again (octets_as (sym (append_assoc p (b ∷ []) s)) o))

  -- the parts of a well-formed text are well formed
  pub split_texts : {s : List ℕ} → Utf8Octets s → Texts (f s)
  unfolding ontos
  split_texts {s} o = split_from [] s o

-- Lines.
splits_lines : Splitting 0x0A raw_lines
unfolding raw_lines
splits_lines = record { ascii = omega arith; ends = inl refl; splits = λ s. refl; stays = λ b s n. rw (ne_eqb b 0x0A n) }

cr_fresh : (l : List ℕ) → Fresh (drop (cr_end l) l)
unfolding cr_end
cr_fresh [] = at_end
cr_fresh (b ∷ l) = go (both (eqb (cr_end l) 0) (eqb b 0x0D)) refl (cr_fresh l)
  where
    go : (t : Bool) → both (eqb (cr_end l) 0) (eqb b 0x0D) ≡ t → Fresh (drop (cr_end l) l) → Fresh (drop (pick t 0 (suc (cr_end l))) (b ∷ l))
    go true e f = at_low {x = b} (let q = eqb-true b 0x0D (both_right (eqb (cr_end l) 0) (eqb b 0x0D) e) in omega arith)
    go false e f = f

without_cr_lem : {ls : List (List ℕ)} → Texts ls → Texts (map without_cr ls)
without_cr_lem no_text = no_text
without_cr_lem (text {l} o t) = text (take_octets o (cr_end l) (cr_fresh l)) (without_cr_lem t)

pub lines_texts : {s : List ℕ} → Utf8Octets s → Texts (lines s)
lines_texts o = without_cr_lem (split_texts splits_lines o)
