-- Two texts compared by blocks of any size, or by a few bytes. Assumes nothing.
use mathlib.Core.Path.{◌≡◌, refl, sym, ◌∙◌, ap}
use mathlib.Core.Bool.{Bool, true, false, not, ◌||◌}
use mathlib.Core.List.{List, [], ◌∷◌}
use mathlib.Core.Logic.{◌⊎◌, inl, inr}
use Prim.Native.Nat.{ℕ, zero, suc, ◌+◌, ◌*◌, ◌-◌, ◌/◌, ◌≤◌, ◌<◌, min}
use native.Mathlib.Numerals.{add-one}
use native.Mathlib.Omega.{arith}
use lib.Dec.{eqb}
use lib.ListN.{length, get_or}
use borrow.Author.Tests.{eq-eqb, ne_eqb, eqb-true}
use borrow.Author.Rules.{rules}
use Rattle.ground.specs.Choice.{pick}
use Rattle.ground.proofs.Cases.{le_or_lt, clash}
use Rattle.text_places.specs.Places.{same}
use Rattle.text_places.specs.Inner.Differing.{differs}
use Rattle.text_places.proofs.PlaceLaws.{unlike, matching_uneven}

-- One byte more.
module _ (b : Bool) (x y : ℕ) where
  pub byte_agrees : x ≡ y → b ≡ pick (eqb x y) b true
  byte_agrees e = sym (rw (eq-eqb x y e))

  pub byte_differs : (x ≡ y → ⊥) → true ≡ pick (eqb x y) b true
  byte_differs n = sym (rw (ne_eqb x y n))

  -- nothing differs up to this byte only where it is the other one and nothing before it differs
  byte_told : {r : Bool} → r ≡ pick (eqb x y) b true → r ≡ false → (x ≡ y) × (b ≡ false)
  byte_told e f = go (eqb x y) refl (sym e ∙ f)
    where
      go : (q : Bool) → eqb x y ≡ q → pick q b true ≡ false → (x ≡ y) × (b ≡ false)
      go true p g = (eqb-true x y p, g)
      go false p g = clash refl g

pub ruleset one_more = (byte_agrees, byte_differs, rules)

-- where nothing differs each byte is the other's
differs_none : (s t : List ℕ) (at n : ℕ) → differs s t at n ≡ false → (k : ℕ) → k < n → get_or s (at + k) 0 ≡ get_or t (at + k) 0
unfolding differs
differs_none s t at zero e k h = absurd (omega arith)
differs_none s t at (suc n) e k h =
    go (λ f l. differs_none s t at n f k l) (eqb (get_or s (at + n) 0) (get_or t (at + n) 0)) refl e (le_or_lt n k)
  where
    go : (differs s t at n ≡ false → k < n → get_or s (at + k) 0 ≡ get_or t (at + k) 0) → (b : Bool) →
        eqb (get_or s (at + n) 0) (get_or t (at + n) 0) ≡ b → pick b (differs s t at n) true ≡ false → (n ≤ k) ⊎ (k < n) →
        get_or s (at + k) 0 ≡ get_or t (at + k) 0
    go again true q f (inl l) = let z : k ≡ n = omega arith in rw z (eqb-true (get_or s (at + n) 0) (get_or t (at + n) 0) q)
    go again true q f (inr l) = again f l
    go again false q f l = clash refl f

differs_self : (s : List ℕ) (at n : ℕ) → differs s s at n ≡ false
unfolding differs
differs_self s at zero = refl
differs_self s at (suc n) = rw (eq-eqb (get_or s (at + n) 0) (get_or s (at + n) 0) refl) (differs_self s at n)

each_same : (s t : List ℕ) → length s ≡ length t → ((k : ℕ) → k < length s → get_or s k 0 ≡ get_or t k 0) → same s t ≡ true
unfolding same
each_same [] [] e f = refl
each_same [] (y ∷ t) e f = absurd (omega arith)
each_same (x ∷ s) [] e f = absurd (omega arith)
each_same (x ∷ s) (y ∷ t) e f =
    rw (eq-eqb x y (f 0 (omega arith))) (each_same s t (omega arith) (λ k h. f (suc k) (omega arith)))

-- The loop over a block.
pub record Differing (s t : List ℕ) (at size : ℕ) (so_far : Bool) (i : ℕ) : Type 0 where
  pub few : i ≤ size
  pub is : so_far ≡ differs s t at i

pub differing_starts : (s t : List ℕ) (at size : ℕ) → Differing s t at size false 0
unfolding differs
differing_starts s t at size = record { few = omega arith; is = refl }

module _ {s t : List ℕ} {at size : ℕ} {so_far : Bool} {i : ℕ} (d : Differing s t at size so_far i) where
  pub differing_more : i < size → {r : Bool} → r ≡ pick (eqb (get_or s (at + i) 0) (get_or t (at + i) 0)) so_far true →
      Differing s t at size r (i + 1)
  unfolding differs
  differing_more h e = record {
    few = omega arith;
    is = rw add-one (e ∙ ap (λ b. pick (eqb (get_or s (at + i) 0) (get_or t (at + i) 0)) b true) d.is);
  }

  pub differing_ends : size ≤ i → so_far ≡ differs s t at size
  differing_ends h = let z : i ≡ size = let f = d.few in omega arith in d.is ∙ ap (differs s t at) z

pub ruleset differing = (differing_starts, differing_more, differing_ends, rules)

-- Blocks of two texts of one length: all bytes before a place are the same.
pub record Agreeing (s t : List ℕ) (at : ℕ) : Type 0 where
  pub even : length s ≡ length t
  pub each : (k : ℕ) → k < at → get_or s k 0 ≡ get_or t k 0

pub agreeing_starts : {s t : List ℕ} → length s ≡ length t → Agreeing s t 0
agreeing_starts e = record { even = e; each = λ k h. absurd (omega arith) }

pub block_unlike : (s t : List ℕ) (at size : ℕ) {d : Bool} → d ≡ differs s t at size → d ≡ true → false ≡ same s t
block_unlike s t at size e f =
    unlike s t (λ z. clash (sym e ∙ f) (ap (λ x. differs s x at size) (sym z) ∙ differs_self s at size))

agreeing_all : {s t : List ℕ} → Agreeing s t (length s) → true ≡ same s t
agreeing_all {s} {t} a = sym (each_same s t a.even a.each)

module _ {s t : List ℕ} {at : ℕ} (a : Agreeing s t at) where
  -- what follows a place that is passed or just reached
  agreeing_past : (first next : ℕ) → first ≤ at → ((k : ℕ) → first ≤ k → k < next → get_or s k 0 ≡ get_or t k 0) → Agreeing s t next
  agreeing_past first next h f = record { even = a.even; each = λ k l. go k l (le_or_lt first k) }
    where
      go : (k : ℕ) → k < next → (first ≤ k) ⊎ (k < first) → get_or s k 0 ≡ get_or t k 0
      go k l (inl g) = f k g l
      go k l (inr g) = a.each k (omega arith)

  agreeing_byte : (first : ℕ) → first ≤ at → get_or s first 0 ≡ get_or t first 0 → Agreeing s t (first + 1)
  agreeing_byte first h e = agreeing_past first (first + 1) h (λ k g l. let z : k ≡ first = omega arith in rw z e)

  agreeing_on : (first size : ℕ) → first ≤ at → differs s t first size ≡ false → Agreeing s t (first + size)
  agreeing_on first size h e = agreeing_past first (first + size) h (λ k g l.
      let z : first + (k - first) ≡ k = omega arith in
      rw z at (differs_none s t first size e (k - first) (omega arith)))

  pub agreeing_more : (size : ℕ) {d : Bool} → d ≡ differs s t at size → d ≡ false → Agreeing s t (at + size)
  agreeing_more size e f = agreeing_on at size (omega arith) (sym e ∙ f)

  -- the last block may begin in what is passed
  pub agreeing_ends : (size : ℕ) → size ≤ length s → length s - size ≤ at → {d : Bool} → d ≡ differs s t (length s - size) size → not d ≡ same s t
  agreeing_ends size l h {d} e = go d e
    where
      go : (b : Bool) → b ≡ differs s t (length s - size) size → not b ≡ same s t
      go true f = block_unlike s t (length s - size) size f refl
      go false f =
          let z : length s - size + size ≡ length s = omega arith in
          let all : Agreeing s t (length s) = rw z at (agreeing_on (length s - size) size h (sym f)) in
          agreeing_all all

-- a block at each end
pub ends_agree : (s t : List ℕ) (size : ℕ) → length s ≡ length t → size ≤ length s → length s ≤ 2 * size → {b : Bool} →
    b ≡ differs s t 0 size → b ≡ false → {d : Bool} → d ≡ differs s t (length s - size) size → not d ≡ same s t
ends_agree s t size e l h f g q =
    agreeing_ends (agreeing_more (agreeing_starts e) size f g) size l (omega arith) q

pub ruleset ending = (block_unlike, ends_agree, rules)

pub ruleset agreeing = (matching_uneven, agreeing_starts, block_unlike, agreeing_more, agreeing_ends, rules)

-- Fewer than four bytes: the first, the middle and the last.
pub none_agree : (s t : List ℕ) → length s ≡ length t → length s ≡ 0 → true ≡ same s t
none_agree s t e z = sym (each_same s t e (λ k h. absurd (omega arith)))

module _ (s t : List ℕ) (e : length s ≡ length t) (n : length s ≡ 0 → ⊥) (h : length s < 4) {a b d : Bool}
    (p : a ≡ pick (eqb (get_or s 0 0) (get_or t 0 0)) false true)
    (q : b ≡ pick (eqb (get_or s (length s / 2) 0) (get_or t (length s / 2) 0)) a true)
    (r : d ≡ pick (eqb (get_or s (length s - 1) 0) (get_or t (length s - 1) 0)) b true) where
  bytes_same : d ≡ false → true ≡ same s t
  bytes_same f =
      let l = byte_told b (get_or s (length s - 1) 0) (get_or t (length s - 1) 0) r f in
      let m = byte_told a (get_or s (length s / 2) 0) (get_or t (length s / 2) 0) q l.1 in
      let o = byte_told false (get_or s 0 0) (get_or t 0 0) p m.1 in
      let one : Agreeing s t 1 = agreeing_byte (agreeing_starts e) 0 (omega arith) o.0 in
      let two : Agreeing s t (length s / 2 + 1) = agreeing_byte one (length s / 2) (omega arith) m.0 in
      let z : length s - 1 + 1 ≡ length s = omega arith in
      let all : Agreeing s t (length s) = rw z at (agreeing_byte two (length s - 1) (omega arith) l.0) in
      agreeing_all all

  bytes_unlike : d ≡ true → false ≡ same s t
  bytes_unlike f = unlike s t (λ z. clash f (r ∙ self (length s - 1) z b ∙ q ∙ self (length s / 2) z a ∙ p ∙ self 0 z false))
    where
      self : (i : ℕ) → s ≡ t → (c : Bool) → pick (eqb (get_or s i 0) (get_or t i 0)) c true ≡ c
      self i z c = sym (byte_agrees c (get_or s i 0) (get_or t i 0) (ap (λ l. get_or l i 0) z))

  pub bytes_agree : not d ≡ same s t
  bytes_agree = go d refl
    where
      go : (x : Bool) → d ≡ x → not x ≡ same s t
      go true f = bytes_unlike f
      go false f = bytes_same f

pub ruleset by_bytes = (none_agree, bytes_agree, rules)

-- 16 to 64 bytes: four blocks, each of which begins in what is passed or just after it.
pub blocks_agree : (s t : List ℕ) → length s ≡ length t → 16 ≤ length s → length s ≤ 64 →
    {second third : ℕ} → second ≡ min 16 (length s - 16) → third ≡ min 32 (length s - 16) → {a b c d : Bool} →
    a ≡ differs s t 0 16 → b ≡ differs s t second 16 → c ≡ differs s t third 16 → d ≡ differs s t (length s - 16) 16 →
    not (((a || b) || c) || d) ≡ same s t
blocks_agree s t e l h {second} {third} u v {a} {b} {c} {d} = go a b c d
  where
    go : (a b c d : Bool) → a ≡ differs s t 0 16 → b ≡ differs s t second 16 → c ≡ differs s t third 16 →
        d ≡ differs s t (length s - 16) 16 → not (((a || b) || c) || d) ≡ same s t
    go true b c d p q r f = block_unlike s t 0 16 p refl
    go false true c d p q r f = block_unlike s t second 16 q refl
    go false false true d p q r f = block_unlike s t third 16 r refl
    go false false false d p q r f =
        let one : Agreeing s t 16 = agreeing_on (agreeing_starts e) 0 16 (omega arith) (sym p) in
        let two : Agreeing s t (second + 16) = agreeing_on one second 16 (omega arith) (sym q) in
        let three : Agreeing s t (third + 16) = agreeing_on two third 16 (omega arith) (sym r) in
        agreeing_ends three 16 l (omega arith) f

pub ruleset by_blocks = (blocks_agree, rules)
