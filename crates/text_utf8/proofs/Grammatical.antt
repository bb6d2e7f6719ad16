-- The check accepts exactly the texts of RFC 3629's grammar. Assumes nothing.
use Rattle.std.specs.Prelude.{Ok, Err}
use mathlib.Core.Path.{◌≡◌, refl, ◌∙◌, ap}
use mathlib.Core.Bool.{Bool, true, false}
use mathlib.Core.List.{List, [], ◌∷◌, ◌++◌}
use mathlib.Core.Logic.{◌↔◌, ◌⊎◌, inl, inr}
use Prim.Native.Nat.{ℕ, zero, suc, pred, ◌+◌, ◌*◌, ◌-◌, ◌≤◌, ◌<◌}
use native.Mathlib.Omega.{arith}
use native.Mathlib.Nat.{add-zero}
use lib.Dec.{eqb, eqb-suc-zero}
use lib.ListN.{length, take, drop, length-drop, take-append-drop}
use lib.Seq.{drop-append_seam, take-add, drop-drop}
use Rattle.ground.specs.Abnf.{octet, ◌⨾◌, left, right, none, more}
use Rattle.ground.specs.Choice.{pick, within}
use Rattle.ground.proofs.Cases.{within_both, within_high, clash, le_or_lt}
use Rattle.text_utf8.specs.declared.sequence.Sequence.{Sequence}
use Rattle.text_utf8.specs.declared.sequence.Sequence.TheVariants.{End, Good, Bad}
use Rattle.text_utf8.specs.Grammar.{Breaks, Utf8Char, Utf8Octets}
use Rattle.text_utf8.proofs.Sequences.{first_good, second_good, went_on, tails_fit, end_empty, good_fits, sequence_end}
use Rattle.text_utf8.proofs.Pieces.{pieces_none, pieces_good, pieces_bad}
use Rattle.text_utf8.specs.Utf8.{Lead, lead, lead_of, tails, after_lead, sequence_of, pieces, check_from, check_of, is_valid, is_utf8, broken}
use Rattle.text_utf8.proofs.Checking.{valid_told}
use Rattle.ground.proofs.Answered.{err_part}
use Rattle.text_utf8.specs.declared.check.Broken.{Broken}

-- octets after the first: as many as are to come, the next between two bounds and all later ones UTF8-tail
data Tails : ℕ → ℕ → ℕ → List ℕ → Type 0 where
  last : {low high : ℕ} → Tails 0 low high []
  next : {n low high y : ℕ} {ys : List ℕ} → within low high y ≡ true → Tails n 0x80 0xBF ys → Tails (suc n) low high (y ∷ ys)

-- Sound: a sequence that is read is a UTF8-char.
Sound : ℕ → List ℕ → Lead → Type 0
Sound x ys l = eqb l.octets 0 ≡ false → Tails (pred l.octets) l.low l.high ys → Utf8Char (x ∷ ys)

by_row : (P : Lead → Type 0) (b : Bool) {l m : Lead} → (b ≡ true → P l) → P m → P (pick b l m)
by_row P true p q = p refl
by_row P false p q = q

one : (x : ℕ) (ys : List ℕ) → within 0x00 0x7F x ≡ true → Sound x ys (lead 1 0x00 0x80 0xBF)
unfolding Sound
one x ys e n last = left (octet x e)

two : (x : ℕ) (ys : List ℕ) → within 0xC2 0xDF x ≡ true → Sound x ys (lead 2 0xC0 0x80 0xBF)
unfolding Sound
two x ys e n (next p last) = right (left (octet x e ⨾ octet _ p))

three_e0 : (x : ℕ) (ys : List ℕ) → within 0xE0 0xE0 x ≡ true → Sound x ys (lead 3 0xE0 0xA0 0xBF)
unfolding Sound
three_e0 x ys e n (next p (next q last)) = right (right (left (left (octet x e ⨾ octet _ p ⨾ octet _ q))))

three_e1 : (x : ℕ) (ys : List ℕ) → within 0xE1 0xEC x ≡ true → Sound x ys (lead 3 0xE0 0x80 0xBF)
unfolding Sound
three_e1 x ys e n (next p (next q last)) = right (right (left (right (left (octet x e ⨾ octet _ p ⨾ octet _ q)))))

three_ed : (x : ℕ) (ys : List ℕ) → within 0xED 0xED x ≡ true → Sound x ys (lead 3 0xE0 0x80 0x9F)
unfolding Sound
three_ed x ys e n (next p (next q last)) = right (right (left (right (right (left (octet x e ⨾ octet _ p ⨾ octet _ q))))))

three_ee : (x : ℕ) (ys : List ℕ) → within 0xEE 0xEF x ≡ true → Sound x ys (lead 3 0xE0 0x80 0xBF)
unfolding Sound
three_ee x ys e n (next p (next q last)) = right (right (left (right (right (right (octet x e ⨾ octet _ p ⨾ octet _ q))))))

four_f0 : (x : ℕ) (ys : List ℕ) → within 0xF0 0xF0 x ≡ true → Sound x ys (lead 4 0xF0 0x90 0xBF)
unfolding Sound
four_f0 x ys e n (next p (next q (next r last))) = right (right (right (left (octet x e ⨾ octet _ p ⨾ octet _ q ⨾ octet _ r))))

four_f1 : (x : ℕ) (ys : List ℕ) → within 0xF1 0xF3 x ≡ true → Sound x ys (lead 4 0xF0 0x80 0xBF)
unfolding Sound
four_f1 x ys e n (next p (next q (next r last))) = right (right (right (right (left (octet x e ⨾ octet _ p ⨾ octet _ q ⨾ octet _ r)))))

four_f4 : (x : ℕ) (ys : List ℕ) → within 0xF4 0xF4 x ≡ true → Sound x ys (lead 4 0xF0 0x80 0x8F)
unfolding Sound
four_f4 x ys e n (next p (next q (next r last))) = right (right (right (right (right (octet x e ⨾ octet _ p ⨾ octet _ q ⨾ octet _ r)))))

no_row : (x : ℕ) (ys : List ℕ) → Sound x ys (lead 0 0x00 0x80 0xBF)
unfolding Sound
no_row x ys n t = clash refl n

sound_row : (x : ℕ) (ys : List ℕ) → Sound x ys (lead_of x)
unfolding lead_of
sound_row x ys =
    by_row (Sound x ys) (within 0x00 0x7F x) (one x ys)
    (by_row (Sound x ys) (within 0xC2 0xDF x) (two x ys)
    (by_row (Sound x ys) (within 0xE0 0xE0 x) (three_e0 x ys)
    (by_row (Sound x ys) (within 0xE1 0xEC x) (three_e1 x ys)
    (by_row (Sound x ys) (within 0xED 0xED x) (three_ed x ys)
    (by_row (Sound x ys) (within 0xEE 0xEF x) (three_ee x ys)
    (by_row (Sound x ys) (within 0xF0 0xF0 x) (four_f0 x ys)
    (by_row (Sound x ys) (within 0xF1 0xF3 x) (four_f1 x ys)
    (by_row (Sound x ys) (within 0xF4 0xF4 x) (four_f4 x ys) (no_row x ys)))))))))

-- what the reader of later octets took is what they have to be
tails_taken : (n low high code taken : ℕ) (l : List ℕ) {d m : ℕ} → tails n low high code taken l ≡ Good d m → Tails n low high (take n l)
unfolding tails
tails_taken zero low high code taken l e = last
tails_taken (suc n) low high code taken [] e = absurd (let z : ◌≡◌ {A = ℕ} 0 1 = cc in omega arith)
tails_taken (suc n) low high code taken (x ∷ l) e =
    next (went_on (within low high x) taken (tails n 0x80 0xBF (code * 64 + (x - 0x80)) (taken + 1) l) e)
    (tails_taken n 0x80 0xBF (code * 64 + (x - 0x80)) (taken + 1) l (first_good (within low high x) taken e))

starts_something : (b : Bool) (o : Sequence) {d m : ℕ} → pick b (Bad 1) o ≡ Good d m → b ≡ false
starts_something true o e = absurd (let z : ◌≡◌ {A = ℕ} 0 1 = cc in omega arith)
starts_something false o e = refl

pub good_is_char : (l : List ℕ) {d m : ℕ} → sequence_of l ≡ Good d m → Utf8Char (take m l)
unfolding sequence_of after_lead Sound
good_is_char [] e = absurd (let z : ◌≡◌ {A = ℕ} 0 1 = cc in omega arith)
good_is_char (x ∷ l) {d} {m} e =
    let y : Lead = lead_of x in
    let o : Sequence = tails (pred y.octets) y.low y.high (x - y.mark) 1 l in
    let g = second_good (eqb y.octets 0) 1 e in
    let f = tails_fit (pred y.octets) y.low y.high (x - y.mark) 1 l g in
    let size : m ≡ suc (pred y.octets) = omega arith in
    rw size (sound_row x (take (pred y.octets) l) (starts_something (eqb y.octets 0) o e)
    (tails_taken (pred y.octets) y.low y.high (x - y.mark) 1 l g))

-- Complete: a UTF8-char is read. First, which row a first octet has.
module _ (x : ℕ) where
  row_00 : within 0x00 0x7F x ≡ true → lead_of x ≡ lead 1 0x00 0x80 0xBF
  unfolding lead_of
  row_00 e = rw e

  row_c2 : within 0xC2 0xDF x ≡ true → lead_of x ≡ lead 2 0xC0 0x80 0xBF
  unfolding lead_of
  row_c2 e = let w = within_both 0xC2 0xDF x e in rw (within_high 0x00 0x7F x (omega arith), e)

  row_e0 : within 0xE0 0xE0 x ≡ true → lead_of x ≡ lead 3 0xE0 0xA0 0xBF
  unfolding lead_of
  row_e0 e = let w = within_both 0xE0 0xE0 x e in rw (within_high 0x00 0x7F x (omega arith), within_high 0xC2 0xDF x (omega arith), e)

  row_e1 : within 0xE1 0xEC x ≡ true → lead_of x ≡ lead 3 0xE0 0x80 0xBF
  unfolding lead_of
  row_e1 e = let w = within_both 0xE1 0xEC x e in rw (within_high 0x00 0x7F x (omega arith), within_high 0xC2 0xDF x (omega arith), within_high 0xE0 0xE0 x (omega arith), e)

  row_ed : within 0xED 0xED x ≡ true → lead_of x ≡ lead 3 0xE0 0x80 0x9F
  unfolding lead_of
  row_ed e = let w = within_both 0xED 0xED x e in rw (within_high 0x00 0x7F x (omega arith), within_high 0xC2 0xDF x (omega arith), within_high 0xE0 0xE0 x (omega arith), within_high 0xE1 0xEC x (omega arith), e)

  row_ee : within 0xEE 0xEF x ≡ true → lead_of x ≡ lead 3 0xE0 0x80 0xBF
  unfolding lead_of
  row_ee e = let w = within_both 0xEE 0xEF x e in rw (within_high 0x00 0x7F x (omega arith), within_high 0xC2 0xDF x (omega arith), within_high 0xE0 0xE0 x (omega arith), within_high 0xE1 0xEC x (omega arith), within_high 0xED 0xED x (omega arith), e)

  row_f0 : within 0xF0 0xF0 x ≡ true → lead_of x ≡ lead 4 0xF0 0x90 0xBF
  unfolding lead_of
  row_f0 e = let w = within_both 0xF0 0xF0 x e in rw (within_high 0x00 0x7F x (omega arith), within_high 0xC2 0xDF x (omega arith), within_high 0xE0 0xE0 x (omega arith), within_high 0xE1 0xEC x (omega arith), within_high 0xED 0xED x (omega arith), within_high 0xEE 0xEF x (omega arith), e)

  row_f1 : within 0xF1 0xF3 x ≡ true → lead_of x ≡ lead 4 0xF0 0x80 0xBF
  unfolding lead_of
  row_f1 e = let w = within_both 0xF1 0xF3 x e in rw (within_high 0x00 0x7F x (omega arith), within_high 0xC2 0xDF x (omega arith), within_high 0xE0 0xE0 x (omega arith), within_high 0xE1 0xEC x (omega arith), within_high 0xED 0xED x (omega arith), within_high 0xEE 0xEF x (omega arith), within_high 0xF0 0xF0 x (omega arith), e)

  row_f4 : within 0xF4 0xF4 x ≡ true → lead_of x ≡ lead 4 0xF0 0x80 0x8F
  unfolding lead_of
  row_f4 e = let w = within_both 0xF4 0xF4 x e in rw (within_high 0x00 0x7F x (omega arith), within_high 0xC2 0xDF x (omega arith), within_high 0xE0 0xE0 x (omega arith), within_high 0xE1 0xEC x (omega arith), within_high 0xED 0xED x (omega arith), within_high 0xEE 0xEF x (omega arith), within_high 0xF0 0xF0 x (omega arith), within_high 0xF1 0xF3 x (omega arith), e)

tails_read : (n low high code taken : ℕ) {ys : List ℕ} → Tails n low high ys → (r : List ℕ) → (d : ℕ) × (tails n low high code taken (ys ++ r) ≡ Good d (taken + length ys))
unfolding tails
tails_read zero low high code taken last r = (code, rw add-zero)
tails_read (suc n) low high code taken (next {y = y} {ys = ys} p t) r =
    let (d, e) = tails_read n 0x80 0xBF (code * 64 + (y - 0x80)) (taken + 1) t r in
    (d, rw p (e ∙ ap (Good d) (omega arith)))

-- a first octet with its row, and the octets after it
reads : (x : ℕ) (ys : List ℕ) (n mark low high : ℕ) → lead_of x ≡ lead (suc n) mark low high → Tails n low high ys → (r : List ℕ) →
    (d : ℕ) × (sequence_of ((x ∷ ys) ++ r) ≡ Good d (length (x ∷ ys)))
unfolding sequence_of after_lead
reads x ys n mark low high e t r =
    let (d, f) = tails_read n low high (x - mark) 1 t r in
    (d, rw (e, eqb-suc-zero n) (f ∙ ap (Good d) (omega arith)))

pub char_reads : {a : List ℕ} → Utf8Char a → (r : List ℕ) → (d : ℕ) × (sequence_of (a ++ r) ≡ Good d (length a))
char_reads (left (octet x e)) r = reads x [] 0 0x00 0x80 0xBF (row_00 x e) last r
char_reads (right (left (octet x e ⨾ octet y p))) r = reads x (y ∷ []) 1 0xC0 0x80 0xBF (row_c2 x e) (next p last) r
char_reads (right (right (left (left (octet x e ⨾ octet y p ⨾ octet z q))))) r = reads x (y ∷ z ∷ []) 2 0xE0 0xA0 0xBF (row_e0 x e) (next p (next q last)) r
char_reads (right (right (left (right (left (octet x e ⨾ octet y p ⨾ octet z q)))))) r = reads x (y ∷ z ∷ []) 2 0xE0 0x80 0xBF (row_e1 x e) (next p (next q last)) r
char_reads (right (right (left (right (right (left (octet x e ⨾ octet y p ⨾ octet z q))))))) r = reads x (y ∷ z ∷ []) 2 0xE0 0x80 0x9F (row_ed x e) (next p (next q last)) r
char_reads (right (right (left (right (right (right (octet x e ⨾ octet y p ⨾ octet z q))))))) r = reads x (y ∷ z ∷ []) 2 0xE0 0x80 0xBF (row_ee x e) (next p (next q last)) r
char_reads (right (right (right (left (octet x e ⨾ octet y p ⨾ octet z q ⨾ octet w o))))) r = reads x (y ∷ z ∷ w ∷ []) 3 0xF0 0x90 0xBF (row_f0 x e) (next p (next q (next o last))) r
char_reads (right (right (right (right (left (octet x e ⨾ octet y p ⨾ octet z q ⨾ octet w o)))))) r = reads x (y ∷ z ∷ w ∷ []) 3 0xF0 0x80 0xBF (row_f1 x e) (next p (next q (next o last))) r
char_reads (right (right (right (right (right (octet x e ⨾ octet y p ⨾ octet z q ⨾ octet w o)))))) r = reads x (y ∷ z ∷ w ∷ []) 3 0xF0 0x80 0x8F (row_f4 x e) (next p (next q (next o last))) r

-- Whole texts.
no_octets : (s : List ℕ) → length s ≤ 0 → Utf8Octets s
no_octets [] h = none
no_octets (x ∷ s) h = absurd (omega arith)

octets_of : (n : ℕ) (s : List ℕ) (at : ℕ) → length s ≤ n → check_from at (pieces s) ≡ Ok tt → Utf8Octets s
unfolding check_from
octets_of zero s at h e = no_octets s h
octets_of (suc n) s at h e = go (sequence_of s) refl (λ m j. octets_of n m j)
  where
    go : (t : Sequence) → sequence_of s ≡ t → ((m : List ℕ) (j : ℕ) → length m ≤ n → check_from j (pieces m) ≡ Ok tt → Utf8Octets m) → Utf8Octets s
    go End q again = no_octets s (let z = end_empty s q in omega arith)
    go (Bad m) q again = absurd (let b = rw (pieces_bad s q) at e in let z : ◌≡◌ {A = ℕ} 0 1 = cc in omega arith)
    go (Good d m) q again =
        let f = good_fits s q in
        let rest : Utf8Octets (drop m s) = again (drop m s) (at + m) (rw length-drop (omega arith)) (rw (pieces_good s q) at e) in
        rw take-append-drop at (more (good_is_char s q) rest)

accepted : {s : List ℕ} → Utf8Octets s → (at : ℕ) → check_from at (pieces s) ≡ Ok tt
unfolding check_from
accepted none at = rw (pieces_none [] refl)
accepted (more {a} {b} c st) at =
    let (d, e) = char_reads c b in
    rw (pieces_good (a ++ b) e, drop-append_seam a b) (accepted st (at + length a))

-- RFC 3629: a text is accepted exactly where it is UTF8-octets
pub valid_iff : (s : List ℕ) → (check_of s ≡ Ok tt) ↔ Utf8Octets s
valid_iff s = (octets_of (length s) s 0 (omega arith), λ o. accepted o 0)

pub utf8_octets : (s : List ℕ) → is_utf8 s ≡ true → Utf8Octets s
utf8_octets s e = (valid_iff s).0 (valid_told s e)

pub octets_utf8 : (s : List ℕ) → Utf8Octets s → is_utf8 s ≡ true
octets_utf8 s o = ap is_valid ((valid_iff s).1 o)

-- where a text breaks, `k` bytes on
record BreaksOn (s : List ℕ) (k m : ℕ) : Type 0 where
  before : Utf8Octets (take k s)
  here : sequence_of (drop k s) ≡ Bad m

breaks_of : (n : ℕ) (s : List ℕ) (at : ℕ) {p m : ℕ} → length s ≤ n → check_from at (pieces s) ≡ Err (broken p m) → (k : ℕ) × (p ≡ at + k) × BreaksOn s k m
unfolding check_from
breaks_of zero s at h e = absurd (let b = rw (pieces_none s (omega arith)) at e in let z : ◌≡◌ {A = ℕ} 0 1 = cc in omega arith)
breaks_of (suc n) s at {p} {m} h e = go (sequence_of s) refl (λ t j. breaks_of n t j)
  where
    go : (t : Sequence) → sequence_of s ≡ t →
        ((t : List ℕ) (j : ℕ) → length t ≤ n → check_from j (pieces t) ≡ Err (broken p m) → (k : ℕ) × (p ≡ j + k) × BreaksOn t k m) →
        (k : ℕ) × (p ≡ at + k) × BreaksOn s k m
    go End q again = absurd (let b = rw (pieces_none s (end_empty s q)) at e in let z : ◌≡◌ {A = ℕ} 0 1 = cc in omega arith)
    go (Bad i) q again =
        let b = rw (pieces_bad s q) at e in
        let place : at ≡ p = err_part (λ (r : Broken). r.at) b in
        let size : i ≡ m = err_part (λ (r : Broken). r.length) b in
        (0, omega arith, record { before = none; here = rw (← size) q })
    go (Good d i) q again =
        let f = good_fits s q in
        let (k, place, b) = again (drop i s) (at + i) (rw length-drop (omega arith)) (rw (pieces_good s q) at e) in
        (i + k, omega arith, record { before = rw (take-add i k s) (more (good_is_char s q) b.before); here = rw (← drop-drop k i s) b.here })

breaks_there : (s : List ℕ) (k m : ℕ) → BreaksOn s k m → Breaks s k
breaks_there s k m b = record { inside = some (le_or_lt (length s) k); before = b.before; after = λ a r c q. never a r c q }
  where
    some : (length s ≤ k) ⊎ (k < length s) → k < length s
    some (inl h) = absurd (let e = sequence_end s k h in let f = b.here in let z : ◌≡◌ {A = ℕ} 0 1 = cc in omega arith)
    some (inr h) = h

    never : (a r : List ℕ) → Utf8Char a → drop k s ≡ a ++ r → ⊥
    never a r c q =
        let (d, e) = char_reads c r in
        let f : sequence_of (a ++ r) ≡ Bad m = rw q at b.here in
        let z : ◌≡◌ {A = ℕ} 0 1 = cc in omega arith

-- RFC 3629: where a text is not accepted, it breaks at the place that is given
pub broken_breaks : (s : List ℕ) {at m : ℕ} → check_of s ≡ Err (broken at m) → Breaks s at
broken_breaks s {at} {m} e =
    let (k, place, b) = breaks_of (length s) s 0 (omega arith) e in
    let here : at ≡ k = omega arith in
    rw here (breaks_there s k m b)

-- and no good sequence stands there
pub broken_sequence : (s : List ℕ) {at m : ℕ} → check_of s ≡ Err (broken at m) → sequence_of (drop at s) ≡ Bad m
broken_sequence s {at} {m} e =
    let (k, place, b) = breaks_of (length s) s 0 (omega arith) e in
    let here : at ≡ k = omega arith in
    rw here b.here
