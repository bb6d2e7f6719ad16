-- A good sequence is told by its own bytes: so white space stays white whatever follows it, and nothing else becomes white where a text is
-- cut.
-- Assumes nothing.
use mathlib.Core.Path.{◌≡◌, refl, sym, ◌∙◌, ap}
use mathlib.Core.Bool.{Bool, true, false}
use mathlib.Core.List.{List, [], ◌∷◌, ◌++◌}
use Prim.Native.Nat.{ℕ, zero, suc, pred, ◌+◌, ◌*◌, ◌-◌, ◌≤◌, ◌<◌}
use native.Mathlib.Omega.{arith}
use lib.Dec.{eqb}
use lib.ListN.{length, take, drop, length-take, take-append-drop}
use lib.Seq.{take-take, drop_at, length-take-le}
use borrow.Author.Tests.{ltb-false}
use Rattle.ground.specs.Choice.{pick, within}
use Rattle.text_utf8.specs.declared.sequence.Sequence.{Sequence}
use Rattle.text_utf8.specs.declared.sequence.Sequence.TheVariants.{End, Good, Bad}
use Rattle.text_utf8.specs.Utf8.{lead_of, tails, after_lead, sequence_of, pieces}
use Rattle.text_utf8.proofs.Sequences.{good_fits, end_empty, tails_fit, second_good}
use Rattle.text_utf8.proofs.Pieces.{pieces_good, pieces_bad}
use Rattle.text_white.specs.White.{is_white}
use Rattle.text_white.specs.Trim.{run_of, all_white, trim_start, trim_end, white_sequence}
use Rattle.text_white.specs.Inner.Before.{white_length, white_length_of}
use Rattle.text_white.proofs.TrimLaws.{starts_trimmed}

tails_local : (n low high code taken : ℕ) (l r : List ℕ) {d m : ℕ} → tails n low high code taken l ≡ Good d m → tails n low high code taken (take n l ++ r) ≡ Good d m
unfolding tails
tails_local zero low high code taken l r e = e
tails_local (suc n) low high code taken [] r e = absurd (let z : ◌≡◌ {A = ℕ} 0 1 = cc in omega arith)
tails_local (suc n) low high code taken (x ∷ l) r {d} {m} e = go (within low high x) e (tails_local n 0x80 0xBF (code * 64 + (x - 0x80)) (taken + 1) l r)
  where
    goes : List ℕ → Sequence
    goes t = tails n 0x80 0xBF (code * 64 + (x - 0x80)) (taken + 1) t

    go : (b : Bool) → pick b (goes l) (Bad taken) ≡ Good d m → (goes l ≡ Good d m → goes (take n l ++ r) ≡ Good d m) → pick b (goes (take n l ++ r)) (Bad taken) ≡ Good d m
    go true f again = again f
    go false f again = absurd (let z : ◌≡◌ {A = ℕ} 0 1 = cc in omega arith)

pub good_local : (l r : List ℕ) {d m : ℕ} → sequence_of l ≡ Good d m → sequence_of (take m l ++ r) ≡ Good d m
unfolding sequence_of after_lead
good_local [] r e = absurd (let z : ◌≡◌ {A = ℕ} 0 1 = cc in omega arith)
good_local (x ∷ l) r {d} {m} e = go (eqb (lead_of x).octets 0) refl
  where
    g : tails (pred (lead_of x).octets) (lead_of x).low (lead_of x).high (x - (lead_of x).mark) 1 l ≡ Good d m
    g = second_good (eqb (lead_of x).octets 0) 1 e

    fits : (m ≡ 1 + pred (lead_of x).octets) × (pred (lead_of x).octets ≤ length l)
    fits = tails_fit (pred (lead_of x).octets) (lead_of x).low (lead_of x).high (x - (lead_of x).mark) 1 l g

    go : (b : Bool) → eqb (lead_of x).octets 0 ≡ b → sequence_of (take m (x ∷ l) ++ r) ≡ Good d m
    go true q = absurd (let bad = rw q at e in let z : ◌≡◌ {A = ℕ} 0 1 = cc in omega arith)
    go false q =
        let size : m ≡ suc (pred (lead_of x).octets) = let f = fits in omega arith in
        let all : after_lead (lead_of x) x (take (pred (lead_of x).octets) l ++ r) ≡ Good d m =
        rw q (tails_local (pred (lead_of x).octets) (lead_of x).low (lead_of x).high (x - (lead_of x).mark) 1 l r g) in
        ap (λ k. sequence_of (take k (x ∷ l) ++ r)) size ∙ all

-- white space at the head of a text is trimmed, whatever follows it
pub white_headed : (l r : List ℕ) {d m : ℕ} → sequence_of l ≡ Good d m → is_white d ≡ true → trim_start (take m l ++ r) ≡ m + trim_start r
unfolding run_of
white_headed l r {d} {m} e w =
    let size = length-take-le m l (good_fits l e).1 in
    rw (pieces_good (take m l ++ r) (good_local l r e), w, drop_at (take m l) r m size)

-- what is not white is not trimmed, wherever it is cut
pub dark_cut : (l : List ℕ) (n : ℕ) → white_length l ≡ 0 → trim_start (take n l) ≡ 0
dark_cut l n z = let s = starts_trimmed (take n l) in let u = ltb-false 0 (trim_start (take n l)) (sym s ∙ go (sequence_of (take n l)) refl) in omega arith
  where
    by : (d m : ℕ) (b : Bool) → is_white d ≡ b → sequence_of (take n l) ≡ Good d m → b ≡ false
    by d m false q e = refl
    by d m true q e =
        let f = good_fits (take n l) e in
        let g = length-take n l in
        let whole : take m (take n l) ++ drop m l ≡ l = rw (take-take m n l (omega arith)) (take-append-drop m l) in
        let here : sequence_of l ≡ Good d m = rw whole at (good_local (take n l) (drop m l) e) in
        let white : white_length l ≡ m = ap white_length_of here ∙ ap (λ b. pick b m 0) q in
        absurd (omega arith)

    go : (t : Sequence) → sequence_of (take n l) ≡ t → white_sequence t ≡ false
    go End e = refl
    go (Good d m) e = by d m (is_white d) refl e
    go (Bad m) e = refl

-- a text that does not start with white space keeps something where its end is trimmed
pub dark_ends : (l : List ℕ) → trim_start l ≡ 0 → 0 < length l → 0 < trim_end l
unfolding run_of all_white trim_end
dark_ends [] e h = absurd (omega arith)
dark_ends (x ∷ l) e h = go (sequence_of (x ∷ l)) refl
  where
    kept : all_white (pieces (x ∷ l)) ≡ false → 0 < trim_end (x ∷ l)
    kept f = rw f (omega arith)

    by : (d m : ℕ) (b : Bool) → is_white d ≡ b → sequence_of (x ∷ l) ≡ Good d m → 0 < trim_end (x ∷ l)
    by d m true q s = absurd (let f = good_fits (x ∷ l) s in let z = rw (pieces_good (x ∷ l) s, q) at e in omega arith)
    by d m false q s = kept (rw (pieces_good (x ∷ l) s, q))

    go : (t : Sequence) → sequence_of (x ∷ l) ≡ t → 0 < trim_end (x ∷ l)
    go End s = absurd (let n = end_empty (x ∷ l) s in omega arith)
    go (Good d m) s = by d m (is_white d) refl s
    go (Bad m) s = kept (rw (pieces_bad (x ∷ l) s))
