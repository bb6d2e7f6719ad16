-- Octets that only continue a sequence, and where a well-formed text may be cut. Assumes nothing.
use mathlib.Core.Path.{◌≡◌, refl, sym, ◌∙◌, ap}
use mathlib.Core.Bool.{Bool, true, false}
use mathlib.Core.List.{List, [], ◌∷◌, ◌++◌, append_assoc}
use mathlib.Core.Logic.{◌⊎◌, inl, inr}
use Prim.Native.Nat.{ℕ, zero, suc, ◌+◌, ◌-◌, ◌≤◌, ◌<◌}
use native.Mathlib.Omega.{arith}
use lib.Dec.{leb}
use lib.ListN.{length, get_or, drop, length-drop, length-append}
use lib.Seq.{drop-append_seam, drop-cons, get_or-drop, get_or-append-add}
use borrow.Author.Tests.{le-leb}
use Rattle.ground.specs.Abnf.{octet, ◌⨾◌, left, right, none, more}
use Rattle.ground.specs.Choice.{pick}
use Rattle.ground.proofs.Cases.{within_yes, within_low, within_high, le_or_lt, clash}
use Rattle.text_utf8.specs.Grammar.{Utf8Char, Utf8Octets}
use Rattle.text_utf8.proofs.Grammatical.{char_reads}
use Rattle.text_utf8.proofs.Boundaries.{octets_as, good_rest, Fresh, at_end, at_low, at_high, fresh_as, octets_fresh}
use Rattle.text_parts.specs.Inner.Reach.{is_tail, tails_up_to, tails_at}

pub tail_low : (b : ℕ) → b < 0x80 → false ≡ is_tail b
tail_low b h = sym (within_low 0x80 0xBF b h)

pub tail_upper : (b : ℕ) → 0x80 ≤ b → leb b 0xBF ≡ is_tail b
tail_upper b h = sym (rw (le-leb 0x80 b h))

-- no such octet stands where a sequence may begin
pub fresh_head : {x : ℕ} {l : List ℕ} → Fresh (x ∷ l) → is_tail x ≡ false
fresh_head f = go f refl
  where
    go : {x : ℕ} {l t : List ℕ} → Fresh t → t ≡ x ∷ l → is_tail x ≡ false
    go at_end e = absurd (let z : ◌≡◌ {A = ℕ} 0 1 = cc in omega arith)
    go {x} (at_low {x = y} h) e = let z : y ≡ x = cc in within_low 0x80 0xBF x (omega arith)
    go {x} (at_high {x = y} h) e = let z : y ≡ x = cc in within_high 0x80 0xBF x (omega arith)

pub head_fresh : (x : ℕ) (l : List ℕ) → is_tail x ≡ false → Fresh (x ∷ l)
head_fresh x l e = low (le_or_lt 0x80 x)
  where
    high : 0x80 ≤ x → (0xC0 ≤ x) ⊎ (x < 0xC0) → Fresh (x ∷ l)
    high h (inl k) = at_high k
    high h (inr k) = clash (within_yes 0x80 0xBF x h (omega arith)) e

    low : (0x80 ≤ x) ⊎ (x < 0x80) → Fresh (x ∷ l)
    low (inl h) = high h (le_or_lt 0xC0 x)
    low (inr h) = at_low h

pub fresh_here : (s : List ℕ) (i : ℕ) → i < length s → Fresh (drop i s) → is_tail (get_or s i 0) ≡ false
fresh_here s i h f = fresh_head (fresh_as (drop-cons s i 0 h) f)

pub here_fresh : (s : List ℕ) (i : ℕ) → i < length s → is_tail (get_or s i 0) ≡ false → Fresh (drop i s)
here_fresh s i h e = fresh_as (sym (drop-cons s i 0 h)) (head_fresh (get_or s i 0) (drop (suc i) s) e)

-- What is left of a well-formed text behind a well-formed start is well formed.
pub rest_octets : {a : List ℕ} → Utf8Octets a → (b : List ℕ) → Utf8Octets (a ++ b) → Utf8Octets b
rest_octets none b o = o
rest_octets (more {a = c} {b = d} k w) b o =
    let (x, e) = char_reads k (d ++ b) in
    let whole : Utf8Octets (c ++ (d ++ b)) = octets_as (append_assoc c d b) o in
    rest_octets w b (octets_as (drop-append_seam c (d ++ b)) (good_rest (c ++ (d ++ b)) e whole))

-- How many stand at the head.
pub tails_inside : (n : ℕ) (l : List ℕ) → tails_up_to n l ≤ length l
unfolding tails_up_to
tails_inside zero l = omega arith
tails_inside (suc n) [] = omega arith
tails_inside (suc n) (x ∷ l) = go (is_tail x) (tails_inside n l)
  where
    go : (b : Bool) → tails_up_to n l ≤ length l → pick b (suc (tails_up_to n l)) 0 ≤ suc (length l)
    go true h = omega arith
    go false h = omega arith

pub tails_fresh : (n : ℕ) (l : List ℕ) → tails_up_to n l < n → Fresh (drop (tails_up_to n l) l)
unfolding tails_up_to
tails_fresh zero l h = absurd (omega arith)
tails_fresh (suc n) [] h = at_end
tails_fresh (suc n) (x ∷ l) h = go (is_tail x) refl h (λ k. tails_fresh n l k)
  where
    go : (b : Bool) → is_tail x ≡ b → pick b (suc (tails_up_to n l)) 0 < suc n → (tails_up_to n l < n → Fresh (drop (tails_up_to n l) l)) →
        Fresh (drop (pick b (suc (tails_up_to n l)) 0) (x ∷ l))
    go true e k again = again (omega arith)
    go false e k again = head_fresh x l e

-- each of `n` that stand at the head
tails_each : (n : ℕ) (l : List ℕ) → n ≤ tails_up_to n l → (j : ℕ) → j < n → (j < length l) × (is_tail (get_or l j 0) ≡ true)
unfolding tails_up_to
tails_each zero l h j k = absurd (omega arith)
tails_each (suc n) [] h j k = absurd (omega arith)
tails_each (suc n) (x ∷ l) h j k = go (is_tail x) refl h j k (λ m i q. tails_each n l m i q)
  where
    go : (b : Bool) → is_tail x ≡ b → suc n ≤ pick b (suc (tails_up_to n l)) 0 → (i : ℕ) → i < suc n →
        (n ≤ tails_up_to n l → (i : ℕ) → i < n → (i < length l) × (is_tail (get_or l i 0) ≡ true)) →
        (i < suc (length l)) × (is_tail (get_or (x ∷ l) i 0) ≡ true)
    go false e m i q again = absurd (omega arith)
    go true e m zero q again = (omega arith, e)
    go true e m (suc i) q again = let t = again (omega arith) i (omega arith) in (omega (arith, t.0), t.1)

-- A character has four octets at most, so no four in a row only continue.
char_short : {a : List ℕ} → Utf8Char a → length a ≤ 4
char_short (left (octet x e)) = omega arith
char_short (right (left (octet x e ⨾ octet y p))) = omega arith
char_short (right (right (left (left (octet x e ⨾ octet y p ⨾ octet z q))))) = omega arith
char_short (right (right (left (right (left (octet x e ⨾ octet y p ⨾ octet z q)))))) = omega arith
char_short (right (right (left (right (right (left (octet x e ⨾ octet y p ⨾ octet z q))))))) = omega arith
char_short (right (right (left (right (right (right (octet x e ⨾ octet y p ⨾ octet z q))))))) = omega arith
char_short (right (right (right (left (octet x e ⨾ octet y p ⨾ octet z q ⨾ octet w o))))) = omega arith
char_short (right (right (right (right (left (octet x e ⨾ octet y p ⨾ octet z q ⨾ octet w o)))))) = omega arith
char_short (right (right (right (right (right (octet x e ⨾ octet y p ⨾ octet z q ⨾ octet w o)))))) = omega arith

behind_append : (a b : List ℕ) (i : ℕ) → length a ≤ i → get_or (a ++ b) i 0 ≡ get_or b (i - length a) 0
behind_append a b i h = let z : length a + (i - length a) ≡ i = omega arith in rw z at (get_or-append-add a b (i - length a) 0)

not_first : {t : List ℕ} → Utf8Octets t → 0 < length t → is_tail (get_or t 0 0) ≡ true → ⊥
not_first {t} o h e = clash e (fresh_here t 0 h (octets_fresh o))

no_four : {t : List ℕ} → Utf8Octets t → (i : ℕ) → ((j : ℕ) → j < 4 → (i + j < length t) × (is_tail (get_or t (i + j) 0) ≡ true)) → ⊥
no_four none i four = let h = (four 0 (omega arith)).0 in absurd (omega arith)
no_four (more {a = a} {b = b} c o) i four = go (le_or_lt (length a) i) (le_or_lt i 0) (λ k f. no_four o k f)
  where
    later : length a ≤ i → (j : ℕ) → j < 4 → (i - length a + j < length b) × (is_tail (get_or b (i - length a + j) 0) ≡ true)
    later h j k =
        let f = four j k in
        let z : i + j - length a ≡ i - length a + j = omega arith in
        (omega (arith, f.0, length-append a b), rw (← z, ← behind_append a b (i + j) (omega arith)) f.1)

    go : (length a ≤ i) ⊎ (i < length a) → (i ≤ 0) ⊎ (0 < i) →
        ((k : ℕ) → ((j : ℕ) → j < 4 → (k + j < length b) × (is_tail (get_or b (k + j) 0) ≡ true)) → ⊥) → ⊥
    go (inl h) w again = again (i - length a) (later h)
    go (inr h) (inl z) again =
        let f = four 0 (omega arith) in
        let y : i + 0 ≡ 0 = omega arith in
        not_first (more c o) (omega (arith, f.0)) (rw y at f.1)
    go (inr h) (inr z) again =
        let s = char_short c in
        let f = four (length a - i) (omega arith) in
        let y : i + (length a - i) ≡ length a = omega arith in
        let x : length a - length a ≡ 0 = omega arith in
        let here : get_or (a ++ b) (length a) 0 ≡ get_or b 0 0 = behind_append a b (length a) (omega arith) ∙ ap (λ n. get_or b n 0) x in
        not_first o (omega (arith, f.0, length-append a b)) (sym (ap is_tail here) ∙ (rw y at f.1))

-- the same at a place of the text
pub four_break : (t : List ℕ) (i : ℕ) → 4 ≤ tails_at t i → Utf8Octets t → ⊥
four_break t i h o = no_four o i (λ j k. let e = tails_each 4 (drop i t) h j k in (omega (arith, e.0, length-drop i t), sym (ap is_tail (get_or-drop i t j 0)) ∙ e.1))
