-- Document 01, refusal 2: "length 1 to 3, or 0 if cut short". Assumes nothing.
use Rattle.std.specs.Prelude.{Err}
use mathlib.Core.Path.{◌≡◌}
use mathlib.Core.Bool.{Bool, true, false}
use mathlib.Core.List.{List, [], ◌∷◌}
use Prim.Native.Nat.{ℕ, zero, suc, pred, ◌+◌, ◌*◌, ◌-◌, ◌≤◌}
use native.Mathlib.Omega.{arith}
use lib.Dec.{eqb}
use Rattle.ground.specs.Choice.{pick, within}
use Rattle.text_utf8.specs.declared.sequence.Sequence.{Sequence}
use Rattle.text_utf8.specs.declared.sequence.Sequence.TheVariants.{End, Good, Bad}
use Rattle.text_utf8.specs.Utf8.{Lead, lead_of, tails, after_lead, sequence_of, beyond, pieces_from, check_from, check_of, broken}
use Rattle.ground.proofs.Answered.{err_part}
use Rattle.text_utf8.specs.declared.check.Broken.{Broken}

-- a bad sequence leaves a start of three octets at most
Short : Sequence → Type 0
Short End = Unit {0}
Short (Good code n) = Unit {0}
Short (Bad n) = n ≤ 3

pick_most : (b : Bool) (l m : Lead) → l.octets ≤ 4 → m.octets ≤ 4 → (pick b l m).octets ≤ 4
pick_most true l m h k = h
pick_most false l m h k = k

lead_most : (x : ℕ) → (lead_of x).octets ≤ 4
unfolding lead_of
lead_most x =
    pick_most (within 0x00 0x7F x) _ _ (omega arith) (pick_most (within 0xC2 0xDF x) _ _ (omega arith) (pick_most (within 0xE0 0xE0 x) _ _ (omega arith)
    (pick_most (within 0xE1 0xEC x) _ _ (omega arith) (pick_most (within 0xED 0xED x) _ _ (omega arith) (pick_most (within 0xEE 0xEF x) _ _ (omega arith)
    (pick_most (within 0xF0 0xF0 x) _ _ (omega arith) (pick_most (within 0xF1 0xF3 x) _ _ (omega arith) (pick_most (within 0xF4 0xF4 x) _ _ (omega arith) (omega arith)))))))))

tails_short : (n low high code taken : ℕ) (s : List ℕ) → taken + n ≤ 4 → Short (tails n low high code taken s)
unfolding tails Short
tails_short zero low high code taken s h = tt
tails_short (suc n) low high code taken [] h = omega arith
tails_short (suc n) low high code taken (x ∷ s) h = go (within low high x) (tails_short n 0x80 0xBF (code * 64 + (x - 0x80)) (taken + 1) s (omega arith))
  where
    go : (b : Bool) → Short (tails n 0x80 0xBF (code * 64 + (x - 0x80)) (taken + 1) s) → Short (pick b (tails n 0x80 0xBF (code * 64 + (x - 0x80)) (taken + 1) s) (Bad taken))
    go true k = k
    go false k = omega arith

pred_most : (n : ℕ) → n ≤ 4 → 1 + pred n ≤ 4
pred_most zero h = omega arith
pred_most (suc n) h = omega arith

after_short : (l : Lead) (x : ℕ) (s : List ℕ) → l.octets ≤ 4 → Short (after_lead l x s)
unfolding after_lead Short
after_short l x s h = go (eqb l.octets 0)
  where
    go : (b : Bool) → Short (pick b (Bad 1) (tails (pred l.octets) l.low l.high (x - l.mark) 1 s))
    go true = omega arith
    go false = tails_short (pred l.octets) l.low l.high (x - l.mark) 1 s (pred_most l.octets h)

sequence_short : (s : List ℕ) → Short (sequence_of s)
unfolding sequence_of Short
sequence_short [] = tt
sequence_short (x ∷ s) = after_short (lead_of x) x s (lead_most x)

check_short : (n at : ℕ) (s : List ℕ) {p m : ℕ} → check_from at (pieces_from n s) ≡ Err (broken p m) → m ≤ 3
unfolding pieces_from check_from Short
check_short n at [] e = absurd (let z : ◌≡◌ {A = ℕ} 0 1 = cc in omega arith)
check_short zero at (x ∷ s) {p} {m} e = go (sequence_of (x ∷ s)) (sequence_short (x ∷ s)) (λ k j. check_short k j s) e
  where
    go : (t : Sequence) → Short t → ((k j : ℕ) → check_from j (pieces_from k s) ≡ Err (broken p m) → m ≤ 3) → check_from at (t ∷ pieces_from (beyond t) s) ≡ Err (broken p m) → m ≤ 3
    go End h again f = absurd (let z : ◌≡◌ {A = ℕ} 0 1 = cc in omega arith)
    go (Good code k) h again f = again (beyond (Good code k)) (at + k) f
    go (Bad k) h again f = let same : k ≡ m = err_part (λ (r : Broken). r.length) f in omega arith
check_short (suc n) at (x ∷ s) e = check_short n at s e

-- the length that is told of a text that is not UTF-8
pub broken_short : (s : List ℕ) {at m : ℕ} → check_of s ≡ Err (broken at m) → m ≤ 3
broken_short s e = check_short 0 0 s e
