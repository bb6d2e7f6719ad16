-- A good sequence holds no start of another one, so that white space can be found from the end of a text. Assumes nothing.
use mathlib.Core.Path.{◌≡◌, refl, sym, ◌∙◌, ap, ap₂}
use mathlib.Core.Bool.{Bool, true, false}
use mathlib.Core.List.{List, [], ◌∷◌}
use mathlib.Core.Logic.{◌⊎◌, inl, inr}
use Prim.Native.Nat.{ℕ, zero, suc, pred, ◌+◌, ◌*◌, ◌-◌, ◌≤◌, ◌<◌, suc-le-suc}
use native.Mathlib.Nat.{add-zero, le_of_suc-le-suc}
use native.Mathlib.Omega.{arith}
use lib.Dec.{eqb, lit≤}
use lib.ListN.{length, get_or, drop, length-drop}
use lib.Seq.{drop-drop, get_or-drop}
use borrow.Author.Rules.{rules}
use Rattle.ground.specs.Choice.{pick, within}
use Rattle.ground.proofs.Cases.{within_both, both_left, both_right, le_or_lt, clash}
use Rattle.text_utf8.specs.declared.sequence.Sequence.{Sequence}
use Rattle.text_utf8.specs.declared.sequence.Sequence.TheVariants.{End, Good, Bad}
use Rattle.text_utf8.specs.Utf8.{Lead, lead, lead_of, tails, after_lead, sequence_of, pieces}
use Rattle.text_places.specs.declared.spans.Span.{Span}
use Rattle.text_white.specs.White.{is_white}
use Rattle.text_white.specs.Trim.{all_white, trim_start, trim_end, trim_both}
use Rattle.text_white.specs.Inner.Before.{white_length, Before}
use Rattle.text_white.specs.Inner.Inked.{ink}
use Rattle.text_white.proofs.Ink.{ink_reads, ink_dark, run_ink, space_white, space_reads}
use Rattle.text_white.proofs.TrimLaws.{run_starts, both_part, both_fits, both_trimmed}
use Rattle.text_utf8.proofs.Leads.{lead_low_none}
use Rattle.text_utf8.proofs.Sequences.{good_fits, end_empty, tails_fit, first_good, second_good, went_on}
use Rattle.text_utf8.proofs.Pieces.{pieces_none, pieces_good, pieces_bad}

-- what holds of every row of the table holds of what any octet settles
either_row : (P : Lead → Type 0) (b : Bool) {l m : Lead} → P l → P m → P (pick b l m)
either_row P true p q = p
either_row P false p q = q

-- there are four octets at most, and the bounds of the second lie within those of a later one
record Tail (l : Lead) : Type 0 where
  most : l.octets ≤ 4
  floor : 0x80 ≤ l.low
  ceiling : l.high ≤ 0xBF

tail : (octets mark low high : ℕ) → octets ≤ 4 → 0x80 ≤ low → high ≤ 0xBF → Tail (lead octets mark low high)
tail octets mark low high m f c = record { most = m; floor = f; ceiling = c }

any_tail : (x : ℕ) → Tail (lead_of x)
unfolding lead_of
any_tail x =
    either_row Tail (within 0x00 0x7F x) (tail 1 0x00 0x80 0xBF (lit≤ tt) (lit≤ tt) (lit≤ tt))
    (either_row Tail (within 0xC2 0xDF x) (tail 2 0xC0 0x80 0xBF (lit≤ tt) (lit≤ tt) (lit≤ tt))
    (either_row Tail (within 0xE0 0xE0 x) (tail 3 0xE0 0xA0 0xBF (lit≤ tt) (lit≤ tt) (lit≤ tt))
    (either_row Tail (within 0xE1 0xEC x) (tail 3 0xE0 0x80 0xBF (lit≤ tt) (lit≤ tt) (lit≤ tt))
    (either_row Tail (within 0xED 0xED x) (tail 3 0xE0 0x80 0x9F (lit≤ tt) (lit≤ tt) (lit≤ tt))
    (either_row Tail (within 0xEE 0xEF x) (tail 3 0xE0 0x80 0xBF (lit≤ tt) (lit≤ tt) (lit≤ tt))
    (either_row Tail (within 0xF0 0xF0 x) (tail 4 0xF0 0x90 0xBF (lit≤ tt) (lit≤ tt) (lit≤ tt))
    (either_row Tail (within 0xF1 0xF3 x) (tail 4 0xF0 0x80 0xBF (lit≤ tt) (lit≤ tt) (lit≤ tt))
    (either_row Tail (within 0xF4 0xF4 x) (tail 4 0xF0 0x80 0x8F (lit≤ tt) (lit≤ tt) (lit≤ tt))
    (tail 0 0x00 0x80 0xBF (lit≤ tt) (lit≤ tt) (lit≤ tt))))))))))

-- every octet of a good sequence but its first is a UTF8-tail
tails_inner : (n low high code taken : ℕ) (l : List ℕ) {d m : ℕ} → 0x80 ≤ low → high ≤ 0xBF → tails n low high code taken l ≡ Good d m →
    (k : ℕ) → k < n → (0x80 ≤ get_or l k 0) × (get_or l k 0 ≤ 0xBF)
unfolding tails
tails_inner zero low high code taken l f c e k h = absurd (omega arith)
tails_inner (suc n) low high code taken [] f c e k h = absurd (let z : ◌≡◌ {A = ℕ} 0 1 = cc in omega arith)
tails_inner (suc n) low high code taken (x ∷ l) f c e zero h =
    let w = within_both low high x (went_on (within low high x) taken (tails n 0x80 0xBF (code * 64 + (x - 0x80)) (taken + 1) l) e) in
    omega arith
tails_inner (suc n) low high code taken (x ∷ l) f c e (suc k) h =
    tails_inner n 0x80 0xBF (code * 64 + (x - 0x80)) (taken + 1) l (lit≤ tt) (lit≤ tt) (first_good (within low high x) taken e) k (omega arith)

pub good_inner : (l : List ℕ) {d m : ℕ} → sequence_of l ≡ Good d m → (k : ℕ) → 0 < k → k < m → (0x80 ≤ get_or l k 0) × (get_or l k 0 ≤ 0xBF)
unfolding sequence_of after_lead
good_inner [] e k p h = absurd (let z : ◌≡◌ {A = ℕ} 0 1 = cc in omega arith)
good_inner (x ∷ l) e zero p h = absurd (omega arith)
good_inner (x ∷ l) e (suc k) p h =
    let y : Lead = lead_of x in
    let t = any_tail x in
    let g = second_good (eqb y.octets 0) 1 e in
    let f = tails_fit (pred y.octets) y.low y.high (x - y.mark) 1 l g in
    tails_inner (pred y.octets) y.low y.high (x - y.mark) 1 l t.floor t.ceiling g k (omega arith)

good_size : (l : List ℕ) {d m : ℕ} → sequence_of l ≡ Good d m → m ≤ 4
unfolding sequence_of after_lead
good_size [] e = absurd (let z : ◌≡◌ {A = ℕ} 0 1 = cc in omega arith)
good_size (x ∷ l) e =
    let y : Lead = lead_of x in
    let f = tails_fit (pred y.octets) y.low y.high (x - y.mark) 1 l (second_good (eqb y.octets 0) 1 e) in
    omega (arith, (any_tail x).most)

-- and no good sequence starts with a UTF8-tail
good_start : (l : List ℕ) {d m : ℕ} → sequence_of l ≡ Good d m → 0x80 ≤ get_or l 0 0 → get_or l 0 0 ≤ 0xBF → ⊥
unfolding sequence_of after_lead
good_start [] e p h = let z : ◌≡◌ {A = ℕ} 0 1 = cc in omega arith
good_start (x ∷ l) e p h =
    let none : (lead_of x).octets ≡ 0 = lead_low_none x p (omega arith) in
    let bad = rw none at e in
    let z : ◌≡◌ {A = ℕ} 0 1 = cc in omega arith

-- what white space there is at the head of a text that is nothing but white space
record WhiteHead (l : List ℕ) : Type 0 where
  code : ℕ
  size : ℕ
  reads : sequence_of l ≡ Good code size
  white : is_white code ≡ true
  rest : all_white (pieces (drop size l)) ≡ true

white_head : (l : List ℕ) → 0 < length l → all_white (pieces l) ≡ true → WhiteHead l
unfolding all_white
white_head l h w = go (sequence_of l) refl
  where
    go : (t : Sequence) → sequence_of l ≡ t → WhiteHead l
    go End e = absurd (let n = end_empty l e in omega arith)
    go (Good d m) e =
        let both_hold = rw (pieces_good l e) at w in
        record {
          code = d;
          size = m;
          reads = e;
          white = both_left (is_white d) (all_white (pieces (drop m l))) both_hold;
          rest = both_right (is_white d) (all_white (pieces (drop m l))) both_hold;
        }
    go (Bad m) e = clash (rw (pieces_bad l e) at w) refl

-- Where no white space character ends at a place from which on there is nothing else, there is none from an earlier place on either.
module _ (s : List ℕ) («end» : ℕ) (inside : «end» ≤ length s) (white : all_white (pieces (drop «end» s)) ≡ true)
    (missed : (k : ℕ) → 0 < k → k ≤ «end» → white_length (drop («end» - k) s) ≡ k → ⊥) where
  -- a white space character that starts earlier does not end here
  not_here : (i : ℕ) (w : WhiteHead (drop i s)) → i < «end» → i + w.size ≡ «end» → ⊥
  not_here i w h e =
      let f = good_fits (drop i s) w.reads in
      let back : «end» - w.size ≡ i = omega arith in
      missed w.size (omega arith) (omega arith) (rw (back, w.reads, w.white))

  -- nor does it go past here
  not_past : (i : ℕ) (w : WhiteHead (drop i s)) → i < «end» → «end» < i + w.size → ⊥
  not_past i w h p =
      let f = good_fits (drop i s) w.reads in
      let d = length-drop i s in
      let there : i + («end» - i) ≡ «end» = omega arith in
      let inner = good_inner (drop i s) w.reads («end» - i) (omega arith) (omega arith) in
      let low : 0x80 ≤ get_or s «end» 0 = rw (get_or-drop i s («end» - i) 0, there) at inner.0 in
      let high : get_or s «end» 0 ≤ 0xBF = rw (get_or-drop i s («end» - i) 0, there) at inner.1 in
      let v = white_head (drop «end» s) (rw length-drop (omega arith)) white in
      good_start (drop «end» s) v.reads (rw (get_or-drop «end» s 0 0, add-zero) low) (rw (get_or-drop «end» s 0 0, add-zero) high)

  no_earlier : (n i : ℕ) → «end» - i ≤ n → i < «end» → all_white (pieces (drop i s)) ≡ true → ⊥
  no_earlier zero i b h a = omega arith
  no_earlier (suc n) i b h a =
      go (white_head (drop i s) (rw length-drop (omega arith)) a) (λ j. no_earlier n j)
    where
      go : (w : WhiteHead (drop i s)) → ((j : ℕ) → «end» - j ≤ n → j < «end» → all_white (pieces (drop j s)) ≡ true → ⊥) → ⊥
      go w again = by (le_or_lt «end» (i + w.size)) (le_or_lt (i + w.size) «end»)
        where
          f : (0 < w.size) × (w.size ≤ length (drop i s))
          f = good_fits (drop i s) w.reads

          by : («end» ≤ i + w.size) ⊎ (i + w.size < «end») → (i + w.size ≤ «end») ⊎ («end» < i + w.size) → ⊥
          by (inr l) o = again (i + w.size) (let g = f in omega arith) l (rw (← drop-drop w.size i s) w.rest)
          by (inl l) (inl g) = not_here i w h (omega arith)
          by (inl l) (inr g) = not_past i w h g

-- the least place from which on there is nothing but white space
least : (s : List ℕ) (e : ℕ) → e ≤ length s → all_white (pieces (drop e s)) ≡ true → ((i : ℕ) → i < e → all_white (pieces (drop i s)) ≡ true → ⊥) → e ≡ trim_end s
unfolding trim_end
least [] zero h w n = refl
least [] (suc e) h w n = absurd (omega arith)
least (x ∷ s) zero h w n = sym (rw w)
least (x ∷ s) (suc e) h w n = go (all_white (pieces (x ∷ s))) refl (least s e (le_of_suc-le-suc h) w (λ i l. n (suc i) (suc-le-suc l)))
  where
    go : (b : Bool) → all_white (pieces (x ∷ s)) ≡ b → e ≡ trim_end s → suc e ≡ pick b 0 (suc (trim_end s))
    go true q p = absurd (n 0 (omega arith) q)
    go false q p = ap suc p

-- A white space character with a length is one that was read.
pub white_length_reads : (l : List ℕ) (r : ℕ) → white_length l ≡ r → 0 < r → (d : ℕ) × (sequence_of l ≡ Good d r) × (is_white d ≡ true)
white_length_reads l r w h = go (sequence_of l) refl
  where
    by : (d m : ℕ) (b : Bool) → is_white d ≡ b → pick b m 0 ≡ r → sequence_of l ≡ Good d m → (d : ℕ) × (sequence_of l ≡ Good d r) × (is_white d ≡ true)
    by d m true y p e = (d, rw (← p) e, y)
    by d m false y p e = absurd (omega arith)

    go : (t : Sequence) → sequence_of l ≡ t → (d : ℕ) × (sequence_of l ≡ Good d r) × (is_white d ≡ true)
    go End e = absurd (let q = rw e at w in omega arith)
    go (Good d m) e = by d m (is_white d) refl (rw e at w) e
    go (Bad m) e = absurd (let q = rw e at w in omega arith)

-- A byte that alone is no white space ends no white space either.
pub ink_before : (s : List ℕ) («end» : ℕ) → «end» ≤ length s → 0 < «end» → ink (get_or s («end» - 1) 0) ≡ true → Before s «end» 0
ink_before s e h p i = record { fits = omega arith; found = λ z. absurd (omega arith); missed = λ z k l u w. go k l u (white_length_reads (drop (e - k) s) k w l) (le_or_lt 2 k) }
  where
    x : ℕ
    x = get_or s (e - 1) 0

    low : x ≤ 0x7F
    low = (within_both 0x21 0x7F x i).1

    go : (k : ℕ) → 0 < k → k ≤ e → (d : ℕ) × (sequence_of (drop (e - k) s) ≡ Good d k) × (is_white d ≡ true) → (2 ≤ k) ⊎ (k < 2) → ⊥
    go k l u (d, g, w) (inl m) =
        let back : e - k + (k - 1) ≡ e - 1 = omega arith in
        let tail = (good_inner (drop (e - k) s) g (k - 1) (omega arith) (omega arith)).0 in
        let there : 0x80 ≤ x = rw (get_or-drop (e - k) s (k - 1) 0, back) at tail in
        omega (arith, low)
    go k l u (d, g, w) (inr m) =
        let one : k ≡ 1 = omega arith in
        let here = ink_reads s (e - 1) (omega arith) i in
        let same : Good d 1 ≡ Good x 1 = sym (rw one at g) ∙ here in
        let code : d ≡ x = cc in
        clash w (rw code (ink_dark x i))

-- The white space character before a place: no shorter one ends there.
pub record Trying (s : List ℕ) («end» size : ℕ) : Type 0 where
  pub some : 1 ≤ size
  pub few : size ≤ 5
  pub missed : (k : ℕ) → 0 < k → k < size → k ≤ «end» → white_length (drop («end» - k) s) ≡ k → ⊥

pub trying_starts : (s : List ℕ) («end» : ℕ) → Trying s «end» 1
trying_starts s «end» = record { some = omega arith; few = omega arith; missed = λ k p l. absurd (omega arith) }

module _ {s : List ℕ} {«end» size : ℕ} (t : Trying s «end» size) where
  pub trying_room : «end» < size → Before s «end» 0
  trying_room h = record { fits = omega arith; found = λ p. absurd (omega arith); missed = λ z k p l. t.missed k p (omega arith) l }

  pub trying_found : size ≤ «end» → {r : ℕ} → r ≡ white_length (drop («end» - size) s) → r ≡ size → Before s «end» size
  trying_found h e f = record { fits = h; found = λ p. sym e ∙ f; missed = λ z. absurd (omega (arith, t.some)) }

  either_size : (k : ℕ) {r : ℕ} → (size ≤ k) ⊎ (k < size) → 0 < k → k < size + 1 → k ≤ «end» → white_length (drop («end» - k) s) ≡ k →
      r ≡ white_length (drop («end» - size) s) → (r ≡ size → ⊥) → ⊥
  either_size k (inl g) p l i w e n = let q : size ≡ k = omega arith in n (e ∙ (rw (sym q) at w))
  either_size k (inr g) p l i w e n = t.missed k p g i w

  pub trying_more : size ≤ 4 → {r : ℕ} → r ≡ white_length (drop («end» - size) s) → (r ≡ size → ⊥) → Trying s «end» (size + 1)
  trying_more h e n = record { some = omega arith; few = omega arith; missed = λ k p l i w. either_size k (le_or_lt size k) p l i w e n }

  pub trying_ends : 4 < size → Before s «end» 0
  trying_ends h = record {
    fits = omega arith;
    found = λ p. absurd (omega arith);
    missed = λ z k p l w. t.missed k p (let d = white_length_reads (drop («end» - k) s) k w p in let m = good_size (drop («end» - k) s) d.1 in omega arith) l w;
  }

pub ruleset trying = (trying_starts, trying_room, trying_found, trying_more, trying_ends, rules)

-- Trimming from the end: there is nothing but white space from here on.
pub record Ending (s : List ℕ) («end» : ℕ) : Type 0 where
  pub inside : «end» ≤ length s
  pub white : all_white (pieces (drop «end» s)) ≡ true

pub ending_starts : (s : List ℕ) → Ending s (length s)
unfolding all_white
ending_starts s = record { inside = omega arith; white = rw (pieces_none (drop (length s) s) (rw length-drop (omega arith))) }

module _ {s : List ℕ} {«end» : ℕ} (k : Ending s «end») where
  pub ending_empty : «end» ≤ 0 → «end» ≡ trim_end s
  ending_empty h = least s «end» k.inside k.white (λ i l. absurd (omega arith))

  module _ {r : ℕ} (b : Before s «end» r) where
    pub ending_stops : r ≡ 0 → «end» ≡ trim_end s
    ending_stops z =
        least s «end» k.inside k.white (λ i. no_earlier s «end» k.inside k.white (b.missed z) «end» i (omega arith))

    pub ending_more : (r ≡ 0 → ⊥) → Ending s («end» - r)
    unfolding all_white
    ending_more n =
        let w = white_length_reads (drop («end» - r) s) r (b.found (omega arith)) (omega arith) in
        let back : «end» - r + r ≡ «end» = omega (arith, b.fits) in
        record {
          inside = omega (arith, k.inside);
          white = rw (pieces_good (drop («end» - r) s) w.1, w.2, drop-drop r («end» - r) s, back) k.white;
        }

    pub ending_falls : (r ≡ 0 → ⊥) → 0 < «end» → «end» - r < «end»
    ending_falls n h = omega arith

    pub ending_room : r ≤ «end»
    ending_room = b.fits

-- a byte that alone tells it
pub ending_ink : {s : List ℕ} {«end» : ℕ} {r : Bool} → Ending s «end» → 0 < «end» → r ≡ ink (get_or s («end» - 1) 0) → r ≡ true → «end» ≡ trim_end s
ending_ink {s = s} {«end» = e} k h i t = ending_stops k (ink_before s e k.inside h (sym i ∙ t)) refl

pub ending_space : {s : List ℕ} {«end» : ℕ} → Ending s «end» → 0 < «end» → get_or s («end» - 1) 0 ≡ 0x20 → Ending s («end» - 1)
unfolding all_white
ending_space {s = s} {«end» = e} k h f =
    let back : e - 1 + 1 ≡ e = omega arith in
    record {
      inside = omega (arith, k.inside);
      white =
          rw (pieces_good (drop (e - 1) s) (sym (space_reads s (e - 1) (omega (arith, k.inside)) f)), space_white (get_or s (e - 1) 0) f, drop-drop 1 (e - 1) s, back)
          k.white;
    }

pub ending_last : {s : List ℕ} {«end» : ℕ} → Ending s «end» → 0 < «end» → «end» - 1 < length s
ending_last k h = omega (arith, k.inside)

pub ruleset ending = (ending_ink, ending_space, ending_last, ending_starts, ending_empty, ending_stops, ending_more, ending_falls, ending_room, rules)

-- A text that starts and ends with ink is trimmed already.
pub inked_ends : (s : List ℕ) → 0 < length s → {a b : Bool} → a ≡ ink (get_or s 0 0) → a ≡ true → b ≡ ink (get_or s (length s - 1) 0) → b ≡ true →
    record { start = 0; «end» = length s } ≡ trim_both s
inked_ends s h e p f q =
    go (trim_start s) (run_ink s 0 h (run_starts is_white s) e p)
  where
    go : (n : ℕ) → 0 ≡ n → ◌≡◌ {A = Span} (record { start = 0; «end» = length s }) (record { start = n; «end» = n + trim_end (drop n s) })
    go zero z = let y = ending_ink (ending_starts s) h f q in ap (λ x. record { start = 0; «end» = x }) (let w : length s ≡ 0 + trim_end (drop 0 s) = omega arith in w)
    go (suc n) z = absurd (omega arith)

-- A text that ends with ink has nothing to trim there.
pub inked_end : (s : List ℕ) → {n : ℕ} → n ≡ trim_start s → n < length s → {b : Bool} → b ≡ ink (get_or s (length s - 1) 0) → b ≡ true →
    record { start = n; «end» = length s } ≡ trim_both s
inked_end s {n} e h {b} f q = go (trim_start s) e
  where
    go : (m : ℕ) → n ≡ m → ◌≡◌ {A = Span} (record { start = n; «end» = length s }) (record { start = m; «end» = m + trim_end (drop m s) })
    go m z =
        let l = length-drop m s in
        let w : m + (length (drop m s) - 1) ≡ length s - 1 = omega arith in
        let i : b ≡ ink (get_or (drop m s) (length (drop m s) - 1) 0) = rw (get_or-drop m s (length (drop m s) - 1) 0, w) f in
        let y = ending_ink (ending_starts (drop m s)) (omega arith) i q in
        let v : length s ≡ m + trim_end (drop m s) = omega arith in
        ap₂ (λ x y. record { start = x; «end» = y }) z v

pub ruleset trimmed = (inked_ends, inked_end, both_part, both_fits, both_trimmed, rules)
