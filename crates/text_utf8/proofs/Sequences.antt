-- The sequence at the head of a text: what its reader needs, and what a good one takes up. Assumes nothing.
use mathlib.Core.Path.{◌≡◌, refl, sym, ◌∙◌}
use mathlib.Core.Bool.{Bool, true, false}
use mathlib.Core.List.{List, [], ◌∷◌}
use Prim.Native.Nat.{ℕ, zero, suc, pred, ◌+◌, ◌*◌, ◌-◌, ◌^◌, ◌≤◌, ◌<◌}
use native.Mathlib.Nat.{add_assoc, pow-suc, pow-le-pow_right, sub-zero}
use native.Mathlib.Numerals.{add-one, sub-one}
use native.Mathlib.Omega.{arith}
use lib.Dec.{eqb, lit<}
use lib.ListN.{length, get_or, drop, drop_of_length-le}
use lib.Seq.{drop-cons}
use mir.Val.{Fits}
use mir.Syntax.{w8, w32}
use borrow.Author.Tests.{ne_eqb}
use borrow.Author.Rules.{rules}
use Rattle.ground.specs.Choice.{pick, within}
use Rattle.ground.proofs.Cases.{within_yes, within_low, within_high}
use Rattle.text_utf8.specs.declared.sequence.Sequence.{Sequence}
use Rattle.text_utf8.specs.declared.sequence.Sequence.TheVariants.{End, Good, Bad}
use Rattle.text_utf8.specs.Utf8.{Lead, lead, lead_of, tails, after_lead, sequence_of}
use Rattle.text_utf8.proofs.Leads.{lead_bounds, lead_low_none, lead_high_none}

-- The loop over the octets after the first: the answer from here on is the answer of the whole.
pub record Tailing (s : List ℕ) (at octets least greatest bits low high code taken : ℕ) : Type 0 where
  pub some : 1 ≤ taken
  pub most : taken ≤ octets
  pub four : octets ≤ 4
  pub inside : at + taken ≤ length s
  pub floor : 0x80 ≤ low
  pub ceiling : high ≤ 0xBF
  pub small : code < 32 * 64 ^ (taken - 1)
  pub decides : tails (octets - taken) low high code taken (drop (at + taken) s) ≡ tails (octets - 1) least greatest bits 1 (drop (at + 1) s)

pub tailing_starts :
    {s : List ℕ} {at octets least greatest bits : ℕ} →
    at < length s → (0 < octets) × (octets ≤ 4) × (bits < 32) → (0x80 ≤ least) × (greatest ≤ 0xBF) →
    Tailing s at octets least greatest bits least greatest bits 1
tailing_starts h b r = record {
  some = omega arith;
  most = omega arith;
  four = b.1;
  inside = omega arith;
  floor = r.0;
  ceiling = r.1;
  small = omega arith;
  decides = refl;
}

-- one more octet is still to come
step_left : (octets taken : ℕ) → taken < octets → octets - taken ≡ suc (octets - (taken + 1))
step_left octets taken h = omega arith

module _ {s : List ℕ} {at octets least greatest bits low high code taken : ℕ} (r : Tailing s at octets least greatest bits low high code taken) where
  pub tails_done : octets ≤ taken → Good code taken ≡ tails (octets - 1) least greatest bits 1 (drop (at + 1) s)
  unfolding tails
  tails_done h =
      let none : octets - taken ≡ 0 = omega arith in
      (rw none at r.decides)

  module _ (h : taken < octets) where
    pub tails_cut : length s - at ≤ taken → Bad 0 ≡ tails (octets - 1) least greatest bits 1 (drop (at + 1) s)
    unfolding tails
    tails_cut e =
        let past : length s ≤ at + taken = let i = r.inside in omega arith in
        let out : drop (at + taken) s ≡ [] = drop_of_length-le s past in
        rw (step_left octets taken h, out) at r.decides

    code_small : code < 131072
    code_small =
        let k : taken - 1 ≤ 2 = omega arith in
        let p : 64 ^ (taken - 1) ≤ 64 ^ 2 = pow-le-pow_right (lit< tt) k in
        omega (arith, r.small)

    pub code_shifts : Fits w32 (code * 64)
    code_shifts = let c = code_small in omega arith

    module _ (i : taken < length s - at) where
      next : drop (at + taken) s ≡ get_or s (at + taken) 0 ∷ drop (suc (at + taken)) s
      next = drop-cons s (at + taken) 0 (omega arith)

      pub tails_low : get_or s (at + taken) 0 < low → Bad taken ≡ tails (octets - 1) least greatest bits 1 (drop (at + 1) s)
      unfolding tails
      tails_low e = rw (step_left octets taken h, next, within_low low high (get_or s (at + taken) 0) e) at r.decides

      pub tails_high : high < get_or s (at + taken) 0 → Bad taken ≡ tails (octets - 1) least greatest bits 1 (drop (at + 1) s)
      unfolding tails
      tails_high e = rw (step_left octets taken h, next, within_high low high (get_or s (at + taken) 0) e) at r.decides

      module _ (l : low ≤ get_or s (at + taken) 0) (u : get_or s (at + taken) 0 ≤ high) where
        grown : code * 64 + (get_or s (at + taken) 0 - 0x80) < 32 * 64 ^ (taken + 1 - 1)
        grown =
            let e : taken + 1 - 1 ≡ suc (taken - 1) = let o = r.some in omega arith in
            rw (e, pow-suc) (omega (arith, r.small, r.floor, r.ceiling))

        pub tails_more : Tailing s at octets least greatest bits 0x80 0xBF (code * 64 + (get_or s (at + taken) 0 - 0x80)) (taken + 1)
        unfolding tails
        tails_more = record {
          some = omega arith;
          most = omega arith;
          four = r.four;
          inside = omega arith;
          floor = omega arith;
          ceiling = omega arith;
          small = grown;
          decides = rw (← add_assoc at taken 1, add-one (at + taken)) (rw (step_left octets taken h, next, within_yes low high (get_or s (at + taken) 0) l u) at r.decides);
        }

        pub code_grows : Fits w32 (code * 64 + (get_or s (at + taken) 0 - 0x80))
        code_grows = let c = code_small in omega (arith, r.ceiling)

        pub octet_bits : Fits w32 (get_or s (at + taken) 0 - 0x80)
        octet_bits = omega (arith, r.ceiling)

        pub octet_high : 0x80 ≤ get_or s (at + taken) 0
        octet_high = omega (arith, r.floor)

pub ruleset tailing =
    (tailing_starts, tails_done, tails_cut, tails_low, tails_high, tails_more, code_shifts, code_grows, octet_bits, octet_high, rules)

-- Reading the whole sequence, by its first octet.
past_first : (s : List ℕ) (at : ℕ) → at < length s → sequence_of (drop at s) ≡ after_lead (lead_of (get_or s at 0)) (get_or s at 0) (drop (at + 1) s)
unfolding sequence_of
past_first s at h = rw (add-one at, drop-cons s at 0 h)

pub sequence_end : (s : List ℕ) (at : ℕ) → length s ≤ at → End ≡ sequence_of (drop at s)
unfolding sequence_of
sequence_end s at h = rw (drop_of_length-le s h)

lead_ascii : (x : ℕ) → x < 0x80 → lead_of x ≡ lead 1 0x00 0x80 0xBF
unfolding lead_of
lead_ascii x h = rw (within_yes 0x00 0x7F x (omega arith) (omega arith))

module _ (s : List ℕ) (at : ℕ) (h : at < length s) where
  pub sequence_ascii : get_or s at 0 < 0x80 → Good (get_or s at 0) 1 ≡ sequence_of (drop at s)
  unfolding after_lead tails
  sequence_ascii e = sym (rw (past_first s at h, lead_ascii (get_or s at 0) e, sub-zero))

  none_begins : (lead_of (get_or s at 0)).octets ≡ 0 → Bad 1 ≡ sequence_of (drop at s)
  unfolding after_lead
  none_begins e = sym (rw (past_first s at h, e))

  pub sequence_low : 0x80 ≤ get_or s at 0 → get_or s at 0 < 0xC2 → Bad 1 ≡ sequence_of (drop at s)
  sequence_low l u = none_begins (lead_low_none (get_or s at 0) l (omega arith))

  pub sequence_high : ((i : ℕ) → Fits w8 (get_or s i 0)) → 0xF4 < get_or s at 0 → Bad 1 ≡ sequence_of (drop at s)
  sequence_high b l = none_begins (lead_high_none (get_or s at 0) l (omega (arith, b at)))

  pub sequence_tails :
      {r : Sequence} {n low high bits : ℕ} → 0xC2 ≤ get_or s at 0 → get_or s at 0 ≤ 0xF4 →
      n ≡ (lead_of (get_or s at 0)).octets → low ≡ (lead_of (get_or s at 0)).low → high ≡ (lead_of (get_or s at 0)).high →
      bits ≡ get_or s at 0 - (lead_of (get_or s at 0)).mark →
      r ≡ tails (n - 1) low high bits 1 (drop (at + 1) s) → r ≡ sequence_of (drop at s)
  unfolding after_lead
  sequence_tails {n = n} l u en el eh eb er =
      let b = lead_bounds (get_or s at 0) l u in
      let some : eqb (lead_of (get_or s at 0)).octets 0 ≡ false = ne_eqb (lead_of (get_or s at 0)).octets 0 (λ z. omega (arith, b.more)) in
      er ∙ rw (past_first s at h, some, en, el, eh, eb, sub-one)

-- what the reader of the later octets asks
module _ (x : ℕ) (l : 0xC2 ≤ x) (u : x ≤ 0xF4) where
  pub some_octets : {n : ℕ} → n ≡ (lead_of x).octets → 0 < n
  some_octets p = omega (arith, (lead_bounds x l u).more)

  pub few_octets : {n : ℕ} → n ≡ (lead_of x).octets → n ≤ 4
  few_octets p = omega (arith, (lead_bounds x l u).most)

  pub few_bits : {bits : ℕ} → bits ≡ x - (lead_of x).mark → bits < 32
  few_bits p = omega (arith, (lead_bounds x l u).bits)

  pub high_low : {low : ℕ} → low ≡ (lead_of x).low → 0x80 ≤ low
  high_low p = omega (arith, (lead_bounds x l u).floor)

  pub low_high : {high : ℕ} → high ≡ (lead_of x).high → high ≤ 0xBF
  low_high p = omega (arith, (lead_bounds x l u).ceiling)

pub ruleset sequences =
    (sequence_end, sequence_ascii, sequence_low, sequence_high, sequence_tails, some_octets, few_octets, few_bits, high_low, low_high, rules)

-- A good sequence takes up what was taken and what was still to come, and stands within the text.
-- of two ways on, the one that ends well
pub first_good : (b : Bool) (k : ℕ) {o : Sequence} {d m : ℕ} → pick b o (Bad k) ≡ Good d m → o ≡ Good d m
first_good true k e = e
first_good false k e = absurd (let z : ◌≡◌ {A = ℕ} 0 1 = cc in omega arith)

pub went_on : (b : Bool) (k : ℕ) (o : Sequence) {d m : ℕ} → pick b o (Bad k) ≡ Good d m → b ≡ true
went_on true k o e = refl
went_on false k o e = absurd (let z : ◌≡◌ {A = ℕ} 0 1 = cc in omega arith)

pub second_good : (b : Bool) (k : ℕ) {o : Sequence} {d m : ℕ} → pick b (Bad k) o ≡ Good d m → o ≡ Good d m
second_good true k e = absurd (let z : ◌≡◌ {A = ℕ} 0 1 = cc in omega arith)
second_good false k e = e

pub tails_fit : (n low high code taken : ℕ) (l : List ℕ) {d m : ℕ} → tails n low high code taken l ≡ Good d m → (m ≡ taken + n) × (n ≤ length l)
unfolding tails
tails_fit zero low high code taken l {d} {m} e = let q : taken ≡ m = cc in omega arith
tails_fit (suc n) low high code taken [] e = absurd (let z : ◌≡◌ {A = ℕ} 0 1 = cc in omega arith)
tails_fit (suc n) low high code taken (x ∷ l) e =
    let f = tails_fit n 0x80 0xBF (code * 64 + (x - 0x80)) (taken + 1) l (first_good (within low high x) taken e) in
    omega arith

pub good_fits : (l : List ℕ) {d m : ℕ} → sequence_of l ≡ Good d m → (0 < m) × (m ≤ length l)
unfolding sequence_of after_lead
good_fits [] e = absurd (let z : ◌≡◌ {A = ℕ} 0 1 = cc in omega arith)
good_fits (x ∷ l) e =
    let y : Lead = lead_of x in
    let f = tails_fit (pred y.octets) y.low y.high (x - y.mark) 1 l (second_good (eqb y.octets 0) 1 e) in
    omega arith

-- Only an empty text has no sequence at its head.
tails_go_on : (n low high code taken : ℕ) (l : List ℕ) → tails n low high code taken l ≡ End → ⊥
unfolding tails
tails_go_on zero low high code taken l e = let z : ◌≡◌ {A = ℕ} 0 1 = cc in omega arith
tails_go_on (suc n) low high code taken [] e = let z : ◌≡◌ {A = ℕ} 0 1 = cc in omega arith
tails_go_on (suc n) low high code taken (x ∷ l) e =
    go (within low high x) (tails_go_on n 0x80 0xBF (code * 64 + (x - 0x80)) (taken + 1) l) e
  where
    go : (b : Bool) {o : Sequence} → (o ≡ End → ⊥) → pick b o (Bad taken) ≡ End → ⊥
    go true f g = f g
    go false f g = let z : ◌≡◌ {A = ℕ} 0 1 = cc in omega arith

pub end_empty : (l : List ℕ) → sequence_of l ≡ End → length l ≡ 0
unfolding sequence_of after_lead
end_empty [] e = refl
end_empty (x ∷ l) e =
    let y : Lead = lead_of x in
    absurd (go (eqb y.octets 0) (tails_go_on (pred y.octets) y.low y.high (x - y.mark) 1 l) e)
  where
    go : (b : Bool) {o : Sequence} → (o ≡ End → ⊥) → pick b (Bad 1) o ≡ End → ⊥
    go true f g = let z : ◌≡◌ {A = ℕ} 0 1 = cc in omega arith
    go false f g = f g

-- A bad sequence, too, is as long as the text at most.
tails_bad_fit : (n low high code taken : ℕ) (l : List ℕ) {m : ℕ} → tails n low high code taken l ≡ Bad m → m ≤ taken + length l
unfolding tails
tails_bad_fit zero low high code taken l e = absurd (let z : ◌≡◌ {A = ℕ} 0 1 = cc in omega arith)
tails_bad_fit (suc n) low high code taken [] {m} e = let q : 0 ≡ m = cc in omega arith
tails_bad_fit (suc n) low high code taken (x ∷ l) {m} e = go (within low high x) e (tails_bad_fit n 0x80 0xBF (code * 64 + (x - 0x80)) (taken + 1) l)
  where
    go : (b : Bool) {o : Sequence} → pick b o (Bad taken) ≡ Bad m → (o ≡ Bad m → m ≤ taken + 1 + length l) → m ≤ taken + suc (length l)
    go true f again = let h = again f in omega arith
    go false f again = let q : taken ≡ m = cc in omega arith

pub bad_fits : (l : List ℕ) {m : ℕ} → sequence_of l ≡ Bad m → m ≤ length l
unfolding sequence_of after_lead
bad_fits [] e = absurd (let z : ◌≡◌ {A = ℕ} 0 1 = cc in omega arith)
bad_fits (x ∷ l) {m} e =
    let y : Lead = lead_of x in
    go (eqb y.octets 0) e (tails_bad_fit (pred y.octets) y.low y.high (x - y.mark) 1 l)
  where
    go : (b : Bool) {o : Sequence} → pick b (Bad 1) o ≡ Bad m → (o ≡ Bad m → m ≤ 1 + length l) → m ≤ suc (length l)
    go true f again = let q : 1 ≡ m = cc in omega arith
    go false f again = let h = again f in omega arith
