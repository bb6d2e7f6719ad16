-- Blocks that do not hold a byte, and the searches that pass them. Assumes nothing.
use mathlib.Core.Path.{◌≡◌, refl}
use mathlib.Core.Bool.{Bool, false}
use mathlib.Core.List.{List}
use mathlib.Core.Logic.{◌⊎◌, inl, inr}
use Prim.Native.Nat.{ℕ, zero, suc, ◌+◌, ◌-◌, ◌*◌, ◌≤◌, ◌<◌}
use native.Mathlib.Nat.{add-zero}
use native.Mathlib.Omega.{arith}
use lib.Dec.{eqb}
use lib.Count.{count_trailing_zeros}
use lib.ListN.{length, get_or, drop, length-drop}
use borrow.Author.Tests.{eqb-false, eq-eqb, ne_eqb}
use borrow.Author.Rules.{rules}
use Rattle.ground.specs.Choice.{bit}
use Rattle.ground.proofs.Cases.{le_or_lt}
use Rattle.ground.proofs.Stretch.{along_none, block_inside, along_told, along_in_block}
use Rattle.text_places.specs.Places.{starts, starts_pair}
use Rattle.text_places.specs.Inner.Blocks.{is_byte, mask_of, Without}
use Rattle.text_places.proofs.MaskLaws.{Passed, passed_none, passed_more, passed_all, whole_zeros, masking}
use Rattle.text_places.proofs.PlaceLaws.{Seeking, seeking_starts, seeking_more, seeking, pairing, byte_other, pair_first_other, no_pair}
use Rattle.text_places.proofs.LineLaws.{ToLf, lf_starts, lf_more, to_lf_lem}

-- A block that does not hold a byte.
pub passed_bytes : {b : ℕ} {s : List ℕ} {at i : ℕ} {holds : Bool} → Passed (is_byte b) s at holds i → 16 ≤ i → holds ≡ false →
    (k : ℕ) → k < 16 → get_or s (at + k) 0 ≡ b → ⊥
passed_bytes {b = b} {s = s} {at = at} w h f k l = eqb-false (get_or s (at + k) 0) b (passed_all w h f k l)

pub ruleset passing = (passed_none, passed_more, passed_bytes, rules)

-- The mask of a block.
module _ {x b : ℕ} where
  pub digit_same : x ≡ b → 1 ≡ bit (eqb x b)
  digit_same e = rw (eq-eqb x b e) refl

  pub digit_other : (x ≡ b → ⊥) → 0 ≡ bit (eqb x b)
  digit_other n = rw (ne_eqb x b n) refl

pub byte_zeros : (b : ℕ) (s : List ℕ) (at : ℕ) {l h : ℕ} → l ≡ mask_of (is_byte b) s at 8 → h ≡ mask_of (is_byte b) s (at + 8) 8 →
    (k : ℕ) → k < count_trailing_zeros 16 (l + 256 * h) → get_or s (at + k) 0 ≡ b → ⊥
byte_zeros b s at e f k u = eqb-false (get_or s (at + k) 0) b (whole_zeros (is_byte b) s at e f k u)

-- the last block, where fewer bytes than a block are left
module _ {b : ℕ} {s : List ℕ} {«from» to : ℕ} (w : Without b s «from» to) (h : length s - to < 16) (l : 16 ≤ length s - «from») where
  pub last_room : length s - 16 + 16 ≤ length s
  last_room = omega arith

  pub last_in_block : (r : ℕ) → r ≤ 16 → ((k : ℕ) → k < r → get_or s (length s - 16 + k) 0 ≡ b → ⊥) → Without b s «from» (length s - 16 + r)
  last_in_block r u n = record { goes = omega arith; inside = omega arith; each = λ i f g. go i f g (le_or_lt (length s - 16) i) }
    where
      go : (i : ℕ) → «from» ≤ i → i < length s - 16 + r → (length s - 16 ≤ i) ⊎ (i < length s - 16) → get_or s i 0 ≡ b → ⊥
      go i f g (inl o) = let e : length s - 16 + (i - (length s - 16)) ≡ i = omega arith in rw e at (n (i - (length s - 16)) (omega arith))
      go i f g (inr o) = w.each i f (omega arith)

  pub last_none : {r : Bool} → (r ≡ false → (k : ℕ) → k < 16 → get_or s (length s - 16 + k) 0 ≡ b → ⊥) → r ≡ false → Without b s «from» (length s)
  last_none n f = let e : length s - 16 + 16 ≡ length s = omega arith in rw e at (last_in_block 16 (omega arith) (n f))

pub ruleset digits = (digit_same, digit_other, rules)

pub ruleset byte_masking = (byte_zeros, masking)

pub ruleset blocks = (along_none, block_inside, along_told, along_in_block, last_room, last_in_block, last_none, rules)

-- A search that passes a stretch in which nothing is found.
pub seek_past : (p : List ℕ → Bool) (s : List ℕ) (n at : ℕ) → Seeking p s at → at + n ≤ length s →
    ((i : ℕ) → i < at + n → p (drop i s) ≡ false) → Seeking p s (at + n)
seek_past p s zero at k h f = rw add-zero k
seek_past p s (suc n) at k h f =
    let q : at + 1 + n ≡ at + suc n = omega arith in
    rw (← q) (seek_past p s n (at + 1) (seeking_more k (omega arith) (f at (omega arith))) (omega arith) (λ i l. f i (omega arith)))

-- no pair starts where its first byte does not stand
pair_not : (a b : ℕ) (s : List ℕ) (i : ℕ) → i < length s → (get_or s i 0 ≡ a → ⊥) → starts_pair a b (drop i s) ≡ false
pair_not a b s i h n = go (le_or_lt (length s) (i + 1))
  where
    go : (length s ≤ i + 1) ⊎ (i + 1 < length s) → starts_pair a b (drop i s) ≡ false
    go (inl l) = no_pair a b (drop i s) (rw length-drop (omega arith))
    go (inr l) = pair_first_other a b s i l n

module _ {b : ℕ} {s : List ℕ} {to : ℕ} (w : Without b s 0 to) where
  pub seek_blocks : Seeking (starts b) s to
  seek_blocks =
      let q : 0 + to ≡ to = omega arith in
      rw q at (seek_past (starts b) s to 0 (seeking_starts (starts b) s) (omega (arith, w.inside))
      (λ i l. byte_other b s i (omega (arith, w.inside)) (w.each i (omega arith) (omega arith))))

  pub pair_blocks : (c : ℕ) → Seeking (starts_pair b c) s to
  pair_blocks c =
      let q : 0 + to ≡ to = omega arith in
      rw q at (seek_past (starts_pair b c) s to 0 (seeking_starts (starts_pair b c) s) (omega (arith, w.inside))
      (λ i l. pair_not b c s i (omega (arith, w.inside)) (w.each i (omega arith) (omega arith))))

pub lf_past : (s : List ℕ) («from» n at : ℕ) → ToLf s «from» at → at + n ≤ length s → ((i : ℕ) → at ≤ i → i < at + n → get_or s i 0 ≡ 0x0A → ⊥) → ToLf s «from» (at + n)
lf_past s f zero at k h e = rw add-zero k
lf_past s f (suc n) at k h e =
    let q : at + 1 + n ≡ at + suc n = omega arith in
    rw (← q) (lf_past s f n (at + 1) (lf_more k (omega arith) (e at (omega arith) (omega arith))) (omega arith) (λ i l u. e i (omega arith) (omega arith)))

pub lf_blocks : {s : List ℕ} {«from» to : ℕ} → Without 0x0A s «from» to → ToLf s «from» to
lf_blocks {s = s} {«from» = f} {to = to} w =
    let q : f + (to - f) ≡ to = omega (arith, w.goes) in
    rw q at (lf_past s f (to - f) f (lf_starts s f (omega (arith, w.goes, w.inside))) (omega (arith, w.goes, w.inside)) (λ i l u. w.each i l (omega (arith, w.goes))))

pub ruleset seeking_blocks = (seek_blocks, seeking)

pub ruleset pairing_blocks = (pair_blocks, pairing)

pub ruleset lf_after_blocks = (lf_blocks, to_lf_lem)
