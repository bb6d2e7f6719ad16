-- Document 01, refusal 2, by RFC 3629's grammar: "the length is the longest start of a good sequence, at least 1; 0 if the text ends in
-- one". Assumes nothing.
use Rattle.std.specs.Prelude.{Err}
use mathlib.Core.Path.{◌≡◌, refl, sym, ◌∙◌, ap, subst}
use mathlib.Core.Bool.{Bool, true, false}
use mathlib.Core.List.{List, [], ◌∷◌, ◌++◌, append-nil}
use mathlib.Core.Logic.{◌⊎◌, inl, inr}
use Prim.Native.Nat.{ℕ, zero, suc, pred, ◌+◌, ◌*◌, ◌-◌, ◌≤◌, ◌<◌}
use native.Mathlib.Omega.{arith}
use native.Mathlib.Nat.{not-suc-le-zero}
use lib.Dec.{eqb}
use lib.ListN.{length, take, drop}
use lib.Seq.{take_all}
use Rattle.ground.specs.Choice.{pick, within}
use Rattle.ground.proofs.Cases.{within_yes}
use Rattle.text_utf8.specs.declared.sequence.Sequence.{Sequence}
use Rattle.text_utf8.specs.declared.sequence.Sequence.TheVariants.{Good, Bad}
use Rattle.text_utf8.specs.Grammar.{Utf8Char, StartsChar, LongestStart}
use Rattle.text_utf8.specs.Utf8.{Lead, lead_of, tails, after_lead, sequence_of, check_of, broken}
use Rattle.text_utf8.proofs.Grammatical.{good_is_char, char_reads, broken_sequence}
use Rattle.text_utf8.proofs.Sequences.{sequence_end}

-- Octets after the first that can be followed by others to a good sequence.
record Extends (n low high code taken : ℕ) (s : List ℕ) : Type 0 where
  more : List ℕ
  size : length (s ++ more) ≡ n
  point : ℕ
  reads : tails n low high code taken (s ++ more) ≡ Good point (taken + n)

-- one octet more in front
extends_more : (n low high code taken x : ℕ) (s : List ℕ) → within low high x ≡ true →
    Extends n 0x80 0xBF (code * 64 + (x - 0x80)) (taken + 1) s → Extends (suc n) low high code taken (x ∷ s)
unfolding tails
extends_more n low high code taken x s h e =
    let place : taken + 1 + n ≡ taken + suc n = omega arith in
    record { more = e.more; size = ap suc e.size; point = e.point; reads = rw h (e.reads ∙ ap (Good e.point) place) }

-- nothing can be followed by the least octets
nothing_extends : (n low high code taken : ℕ) → low ≤ high → Extends n low high code taken []
unfolding tails
nothing_extends zero low high code taken h =
    let place : taken ≡ taken + 0 = omega arith in
    record { more = []; size = refl; point = code; reads = ap (Good code) place }
nothing_extends (suc n) low high code taken h =
    let e = nothing_extends n 0x80 0xBF (code * 64 + (low - 0x80)) (taken + 1) (omega arith) in
    let place : taken + 1 + n ≡ taken + suc n = omega arith in
    record {
      more = low ∷ e.more;
      size = ap suc e.size;
      point = e.point;
      reads = rw (within_yes low high low (omega arith) h) (e.reads ∙ ap (Good e.point) place);
    }

-- Where octets are not read to a good sequence: they end too soon, or one of them does not fit.
record Stops (n low high code taken : ℕ) (s : List ℕ) (m : ℕ) : Type 0 where
  some : taken ≤ m
  inside : m - taken < length s
  start : Extends n low high code taken (take (m - taken) s)
  never : (k : ℕ) (b : List ℕ) → m - taken < k → tails n low high code taken (take k s ++ b) ≡ Bad m

abbrev Ends : ℕ → ℕ → ℕ → ℕ → ℕ → List ℕ → ℕ → Type 0
Ends n low high code taken s m = ((m ≡ 0) × Extends n low high code taken s) ⊎ Stops n low high code taken s m

bad_same : {a b : ℕ} → Bad a ≡ Bad b → a ≡ b
bad_same e = cc

module _ (n low high code taken x : ℕ) (s : List ℕ) (m : ℕ) where
  abbrev next : ℕ
  next = code * 64 + (x - 0x80)

  goes_on : within low high x ≡ true → Ends n 0x80 0xBF next (taken + 1) s m → Ends (suc n) low high code taken (x ∷ s) m
  unfolding tails
  goes_on h (inl (z, e)) = inl (z, extends_more n low high code taken x s h e)
  goes_on h (inr e) =
      let some = e.some in
      let inside = e.inside in
      let place : m - taken ≡ suc (m - (taken + 1)) = omega arith in
      inr
      (record {
        some = omega arith;
        inside = omega arith;
        start = rw place (extends_more n low high code taken x (take (m - (taken + 1)) s) h e.start);
        never = λ k b l. later k b l;
      })
    where
      later : (k : ℕ) (b : List ℕ) → m - taken < k → tails (suc n) low high code taken (take k (x ∷ s) ++ b) ≡ Bad m
      later zero b l = absurd (not-suc-le-zero l)
      later (suc k) b l = let some = e.some in rw h (e.never k b (omega arith))

  stops_here : low ≤ high → within low high x ≡ false → Bad taken ≡ Bad m → Ends (suc n) low high code taken (x ∷ s) m
  unfolding tails
  stops_here l h e =
      let is : taken ≡ m = bad_same e in
      let place : m - taken ≡ 0 = omega arith in
      inr
      (record {
        some = omega arith;
        inside = omega arith;
        start = rw place (nothing_extends (suc n) low high code taken l);
        never = λ k b g. later k b is g;
      })
    where
      later : (k : ℕ) (b : List ℕ) → taken ≡ m → m - taken < k → tails (suc n) low high code taken (take k (x ∷ s) ++ b) ≡ Bad m
      later zero b is g = absurd (not-suc-le-zero g)
      later (suc k) b is g = rw h (ap Bad is)

tails_end : (n low high code taken : ℕ) (s : List ℕ) {m : ℕ} → low ≤ high → tails n low high code taken s ≡ Bad m →
    Ends n low high code taken s m
unfolding tails
tails_end zero low high code taken s h e = absurd (let z : ◌≡◌ {A = ℕ} 0 1 = cc in omega arith)
tails_end (suc n) low high code taken [] h e = inl (sym (bad_same e), nothing_extends (suc n) low high code taken h)
tails_end (suc n) low high code taken (x ∷ s) {m} h e =
    go (within low high x) refl (tails_end n 0x80 0xBF (code * 64 + (x - 0x80)) (taken + 1) s (omega arith)) e
  where
    again : Sequence
    again = tails n 0x80 0xBF (code * 64 + (x - 0x80)) (taken + 1) s

    go : (b : Bool) → within low high x ≡ b → (again ≡ Bad m → Ends n 0x80 0xBF (code * 64 + (x - 0x80)) (taken + 1) s m) →
        pick b again (Bad taken) ≡ Bad m → Ends (suc n) low high code taken (x ∷ s) m
    go true q later f = goes_on n low high code taken x s m q (later f)
    go false q later f = stops_here n low high code taken x s m h q f

-- The bounds of a second octet are in order.
pick_rising : (b : Bool) (l k : Lead) → l.low ≤ l.high → k.low ≤ k.high → (pick b l k).low ≤ (pick b l k).high
pick_rising true l k g h = g
pick_rising false l k g h = h

lead_rising : (x : ℕ) → (lead_of x).low ≤ (lead_of x).high
unfolding lead_of
lead_rising x =
    pick_rising (within 0x00 0x7F x) _ _ (omega arith) (pick_rising (within 0xC2 0xDF x) _ _ (omega arith)
    (pick_rising (within 0xE0 0xE0 x) _ _ (omega arith) (pick_rising (within 0xE1 0xEC x) _ _ (omega arith)
    (pick_rising (within 0xED 0xED x) _ _ (omega arith) (pick_rising (within 0xEE 0xEF x) _ _ (omega arith)
    (pick_rising (within 0xF0 0xF0 x) _ _ (omega arith) (pick_rising (within 0xF1 0xF3 x) _ _ (omega arith)
    (pick_rising (within 0xF4 0xF4 x) _ _ (omega arith) (omega arith)))))))))

-- a text that is read as bad with anything behind it starts no character
never_starts : (a : List ℕ) {n : ℕ} → ((b : List ℕ) → sequence_of (a ++ b) ≡ Bad n) → StartsChar a → ⊥
never_starts a {n} bad (b, c) =
    let (d, e) = char_reads c [] in
    let f : sequence_of ((a ++ b) ++ []) ≡ Bad n = ap sequence_of (append-nil (a ++ b)) ∙ bad b in
    let z : ◌≡◌ {A = ℕ} 0 1 = cc in
    omega arith

module _ (x : ℕ) (s : List ℕ) (m : ℕ) where
  abbrev rest : ℕ
  rest = pred (lead_of x).octets

  abbrev first : List ℕ → Sequence
  first t = tails rest (lead_of x).low (lead_of x).high (x - (lead_of x).mark) 1 t

  -- no sequence begins with the octet
  none_begins : eqb (lead_of x).octets 0 ≡ true → (t : List ℕ) → sequence_of (x ∷ t) ≡ Bad 1
  unfolding sequence_of after_lead
  none_begins h t = rw h

  one_begins : eqb (lead_of x).octets 0 ≡ false → (t : List ℕ) → sequence_of (x ∷ t) ≡ first t
  unfolding sequence_of after_lead
  one_begins h t = rw h

  begins : eqb (lead_of x).octets 0 ≡ false → (t : List ℕ) →
      Extends rest (lead_of x).low (lead_of x).high (x - (lead_of x).mark) 1 t → StartsChar (x ∷ t)
  begins h t e =
      let good : sequence_of (x ∷ (t ++ e.more)) ≡ Good e.point (1 + rest) = one_begins h (t ++ e.more) ∙ e.reads in
      let whole : take (1 + rest) (x ∷ (t ++ e.more)) ≡ x ∷ (t ++ e.more) =
      ap (λ n. take (1 + n) (x ∷ (t ++ e.more))) (sym e.size) ∙ take_all (1 + length (t ++ e.more)) (x ∷ (t ++ e.more)) (omega arith) in
      (e.more, subst Utf8Char whole (good_is_char (x ∷ (t ++ e.more)) good))

  no_start : (k : ℕ) → eqb (lead_of x).octets 0 ≡ true → 0 < k → StartsChar (take k (x ∷ s)) → ⊥
  no_start zero h l = absurd (not-suc-le-zero l)
  no_start (suc k) h l = never_starts (x ∷ take k s) (λ b. none_begins h (take k s ++ b))

  none_longest : eqb (lead_of x).octets 0 ≡ true → m ≡ 1 → LongestStart (x ∷ s) m
  none_longest h is =
      let whole : take (length (x ∷ s)) (x ∷ s) ≡ x ∷ s = take_all (length (x ∷ s)) (x ∷ s) (omega arith) in
      record {
        cut = (λ z. absurd (omega arith), λ t. absurd (no_start (length (x ∷ s)) h (omega arith) (subst StartsChar (sym whole) t)));
        starts = λ l. inr (is, no_start 1 h (omega arith));
        longest = λ l k g. no_start k h (omega arith);
        inside = omega arith;
      }

  cut_longest : eqb (lead_of x).octets 0 ≡ false → m ≡ 0 →
      Extends rest (lead_of x).low (lead_of x).high (x - (lead_of x).mark) 1 s → LongestStart (x ∷ s) m
  cut_longest h z e =
      record {
        cut = (λ n. begins h s e, λ t. z);
        starts = λ l. absurd (omega arith);
        longest = λ l. absurd (omega arith);
        inside = omega arith;
      }

  module _ (h : eqb (lead_of x).octets 0 ≡ false) (e : Stops rest (lead_of x).low (lead_of x).high (x - (lead_of x).mark) 1 s m) where
    stopped : (k : ℕ) → m < k → StartsChar (take k (x ∷ s)) → ⊥
    stopped zero l = absurd (not-suc-le-zero l)
    stopped (suc k) l =
        let some = e.some in
        never_starts (x ∷ take k s) (λ b. one_begins h (take k s ++ b) ∙ e.never k b (omega arith))

    stop_longest : LongestStart (x ∷ s) m
    stop_longest =
        let some = e.some in
        let inside = e.inside in
        let whole : take (length (x ∷ s)) (x ∷ s) ≡ x ∷ s = take_all (length (x ∷ s)) (x ∷ s) (omega arith) in
        let place : m ≡ suc (m - 1) = omega arith in
        let start : StartsChar (take m (x ∷ s)) = subst (λ n. StartsChar (take n (x ∷ s))) (sym place) (begins h (take (m - 1) s) e.start) in
        record {
          cut = (λ z. absurd (omega arith), λ t. absurd (stopped (length (x ∷ s)) (omega arith) (subst StartsChar (sym whole) t)));
          starts = λ l. inl start;
          longest = λ l. stopped;
          inside = omega arith;
        }

  bad_longest : sequence_of (x ∷ s) ≡ Bad m → LongestStart (x ∷ s) m
  bad_longest e = go (eqb (lead_of x).octets 0) refl
    where
      by_end : (h : eqb (lead_of x).octets 0 ≡ false) →
          Ends rest (lead_of x).low (lead_of x).high (x - (lead_of x).mark) 1 s m → LongestStart (x ∷ s) m
      by_end h (inl (z, k)) = cut_longest h z k
      by_end h (inr k) = stop_longest h k

      go : (b : Bool) → eqb (lead_of x).octets 0 ≡ b → LongestStart (x ∷ s) m
      go true h = none_longest h (bad_same (sym e ∙ none_begins h s))
      go false h =
          by_end h (tails_end rest (lead_of x).low (lead_of x).high (x - (lead_of x).mark) 1 s (lead_rising x) (sym (one_begins h s) ∙ e))

-- The length at refusal 2 is that of the longest start of a good sequence.
pub broken_longest : (s : List ℕ) {at n : ℕ} → check_of s ≡ Err (broken at n) → LongestStart (drop at s) n
broken_longest s {at} {n} e = go (drop at s) (broken_sequence s e)
  where
    go : (l : List ℕ) → sequence_of l ≡ Bad n → LongestStart l n
    go [] b = absurd (let f = sequence_end [] 0 (omega arith) in let z : ◌≡◌ {A = ℕ} 0 1 = cc in omega arith)
    go (x ∷ l) b = bad_longest x l n b
