-- The octets of a code point are a UTF8-char of RFC 3629, section 4, where it is no surrogate. Assumes nothing.
use mathlib.Core.Path.{◌≡◌, sym, ◌∙◌, ap}
use mathlib.Core.Bool.{false}
use mathlib.Core.List.{List, [], ◌∷◌}
use mathlib.Core.Logic.{◌⊎◌, inl, inr}
use Prim.Native.Nat.{ℕ, ◌+◌, ◌/◌, ◌%◌, ◌≤◌, ◌<◌}
use native.Mathlib.Omega.{arith}
use lib.ListN.{length, get_or}
use borrow.Author.Tests.{lt-ltb, le-ltb}
use Rattle.ground.specs.Abnf.{Octet, octet, ◌⨾◌, left, right}
use Rattle.ground.specs.Choice.{within}
use Rattle.ground.proofs.Cases.{within_yes, clash, le_or_lt}
use Rattle.text_utf8.specs.Grammar.{Utf8Tail, Utf8Char}
use Rattle.json_grammar.specs.Encode.{two_octets, three_octets, four_octets, utf8}

-- The four forms.
module _ (c : ℕ) where
  pub utf8_one : c < 0x80 → utf8 c ≡ c ∷ []
  unfolding utf8
  utf8_one h = rw (lt-ltb c 0x80 h)

  pub utf8_two : 0x80 ≤ c → c < 0x800 → utf8 c ≡ two_octets c
  unfolding utf8
  utf8_two l h = rw (le-ltb c 0x80 l, lt-ltb c 0x800 h)

  pub utf8_three : 0x800 ≤ c → c < 0x10000 → utf8 c ≡ three_octets c
  unfolding utf8
  utf8_three l h = rw (le-ltb c 0x80 (omega arith), le-ltb c 0x800 l, lt-ltb c 0x10000 h)

  pub utf8_four : 0x10000 ≤ c → utf8 c ≡ four_octets c
  unfolding utf8
  utf8_four l = rw (le-ltb c 0x80 (omega arith), le-ltb c 0x800 (omega arith), le-ltb c 0x10000 l)

-- a code point has one of them
pub by_form : (P : List ℕ → Type 0) (c : ℕ) → (c < 0x80 → P (c ∷ [])) → (0x80 ≤ c → c < 0x800 → P (two_octets c)) →
    (0x800 ≤ c → c < 0x10000 → P (three_octets c)) → (0x10000 ≤ c → P (four_octets c)) → P (utf8 c)
by_form P c f g h i = go (le_or_lt 0x80 c) (le_or_lt 0x800 c) (le_or_lt 0x10000 c)
  where
    go : (0x80 ≤ c) ⊎ (c < 0x80) → (0x800 ≤ c) ⊎ (c < 0x800) → (0x10000 ≤ c) ⊎ (c < 0x10000) → P (utf8 c)
    go (inr p) o w = rw (utf8_one c p) (f p)
    go (inl p) (inr q) w = rw (utf8_two c p q) (g p q)
    go (inl p) (inl q) (inr r) = rw (utf8_three c q r) (h q r)
    go (inl p) (inl q) (inl r) = rw (utf8_four c r) (i r)

-- outside a range is before it or after it
outside : (low high x : ℕ) → within low high x ≡ false → (x < low) ⊎ (high < x)
outside low high x e = go (le_or_lt low x) (le_or_lt x high)
  where
    go : (low ≤ x) ⊎ (x < low) → (x ≤ high) ⊎ (high < x) → (x < low) ⊎ (high < x)
    go (inl l) (inl h) = clash (within_yes low high x l h) e
    go (inl l) (inr h) = inr h
    go (inr l) o = inl l

octet_in : (low high x : ℕ) → low ≤ x → x ≤ high → Octet low high (x ∷ [])
octet_in low high x l h = octet x (within_yes low high x l h)

-- six bits behind the mark of a later octet
tail : (x : ℕ) → Utf8Tail ((0x80 + x % 64) ∷ [])
tail x = octet_in 0x80 0xBF (0x80 + x % 64) (omega arith) (omega arith)

pub one_octet : (c : ℕ) → c < 0x80 → Utf8Char (c ∷ [])
one_octet c h = left (octet_in 0x00 0x7F c (omega arith) (omega arith))

lead_tail : (x y : ℕ) → 0xC2 ≤ x → x ≤ 0xDF → 0x80 ≤ y → y ≤ 0xBF → Utf8Char (x ∷ y ∷ [])
lead_tail x y a b c d = right (left (octet_in 0xC2 0xDF x a b ⨾ octet_in 0x80 0xBF y c d))

two_octets_lem : (c : ℕ) → 0x80 ≤ c → c < 0x800 → Utf8Char (two_octets c)
two_octets_lem c l h = lead_tail _ _ (omega arith) (omega arith) (omega arith) (omega arith)

-- Three octets, by the row of the grammar.
module _ (c : ℕ) where
  first_e0 : 0x800 ≤ c → c < 0x1000 → Utf8Char (three_octets c)
  first_e0 l h =
      right (right (left (left (octet_in 0xE0 0xE0 (0xE0 + c / 4096) (omega arith) (omega arith) ⨾
      octet_in 0xA0 0xBF (0x80 + c / 64 % 64) (omega arith) (omega arith) ⨾ tail c))))

  first_e1 : 0x1000 ≤ c → c < 0xD000 → Utf8Char (three_octets c)
  first_e1 l h = right (right (left (right (left (octet_in 0xE1 0xEC (0xE0 + c / 4096) (omega arith) (omega arith) ⨾ tail (c / 64) ⨾ tail c)))))

  first_ed : 0xD000 ≤ c → c < 0xD800 → Utf8Char (three_octets c)
  first_ed l h =
      right (right (left (right (right (left (octet_in 0xED 0xED (0xE0 + c / 4096) (omega arith) (omega arith) ⨾
      octet_in 0x80 0x9F (0x80 + c / 64 % 64) (omega arith) (omega arith) ⨾ tail c))))))

  first_ee : 0xE000 ≤ c → c < 0x10000 → Utf8Char (three_octets c)
  first_ee l h = right (right (left (right (right (right (octet_in 0xEE 0xEF (0xE0 + c / 4096) (omega arith) (omega arith) ⨾ tail (c / 64) ⨾ tail c))))))

  three_octets_lem : 0x800 ≤ c → c < 0x10000 → within 0xD800 0xDFFF c ≡ false → Utf8Char (three_octets c)
  three_octets_lem l h e = go (le_or_lt 0x1000 c) (le_or_lt 0xD000 c) (outside 0xD800 0xDFFF c e)
    where
      go : (0x1000 ≤ c) ⊎ (c < 0x1000) → (0xD000 ≤ c) ⊎ (c < 0xD000) → (c < 0xD800) ⊎ (0xDFFF < c) → Utf8Char (three_octets c)
      go (inr p) o n = first_e0 l p
      go (inl p) (inr q) n = first_e1 p q
      go (inl p) (inl q) (inl n) = first_ed q n
      go (inl p) (inl q) (inr n) = first_ee n h

-- Four octets, by the row of the grammar.
module _ (c : ℕ) where
  first_f0 : 0x10000 ≤ c → c < 0x40000 → Utf8Char (four_octets c)
  first_f0 l h =
      right (right (right (left (octet_in 0xF0 0xF0 (0xF0 + c / 262144) (omega arith) (omega arith) ⨾
      octet_in 0x90 0xBF (0x80 + c / 4096 % 64) (omega arith) (omega arith) ⨾ tail (c / 64) ⨾ tail c))))

  first_f1 : 0x40000 ≤ c → c < 0x100000 → Utf8Char (four_octets c)
  first_f1 l h =
      right (right (right (right (left (octet_in 0xF1 0xF3 (0xF0 + c / 262144) (omega arith) (omega arith) ⨾ tail (c / 4096) ⨾ tail (c / 64) ⨾ tail c)))))

  first_f4 : 0x100000 ≤ c → c < 0x110000 → Utf8Char (four_octets c)
  first_f4 l h =
      right (right (right (right (right (octet_in 0xF4 0xF4 (0xF0 + c / 262144) (omega arith) (omega arith) ⨾
      octet_in 0x80 0x8F (0x80 + c / 4096 % 64) (omega arith) (omega arith) ⨾ tail (c / 64) ⨾ tail c)))))

  four_octets_lem : 0x10000 ≤ c → c < 0x110000 → Utf8Char (four_octets c)
  four_octets_lem l h = go (le_or_lt 0x40000 c) (le_or_lt 0x100000 c)
    where
      go : (0x40000 ≤ c) ⊎ (c < 0x40000) → (0x100000 ≤ c) ⊎ (c < 0x100000) → Utf8Char (four_octets c)
      go (inr p) o = first_f0 l p
      go (inl p) (inr q) = first_f1 p q
      go (inl p) (inl q) = first_f4 q h

pub utf8_char : (c : ℕ) → c < 0x110000 → within 0xD800 0xDFFF c ≡ false → Utf8Char (utf8 c)
utf8_char c h e = by_form Utf8Char c (one_octet c) (two_octets_lem c) (λ l u. three_octets_lem c l u e) (λ l. four_octets_lem c l h)

-- a code point has four octets at most
pub utf8_short : (c : ℕ) → length (utf8 c) ≤ 4
utf8_short c = by_form (λ l. length l ≤ 4) c (λ l. omega arith) (λ l u. omega arith) (λ l u. omega arith) (λ l. omega arith)

-- numbers with the same digits in base 64 are the same
same_digits : (x y : ℕ) → x / 64 ≡ y / 64 → x % 64 ≡ y % 64 → x ≡ y
same_digits x y p q = omega arith

twice : (x : ℕ) → x / 64 / 64 ≡ x / 4096
twice x = omega arith

thrice : (x : ℕ) → x / 4096 / 64 ≡ x / 262144
thrice x = omega arith

same_two : (x y : ℕ) → x / 4096 ≡ y / 4096 → x / 64 % 64 ≡ y / 64 % 64 → x % 64 ≡ y % 64 → x ≡ y
same_two x y p q r = same_digits x y (same_digits (x / 64) (y / 64) (twice x ∙ p ∙ sym (twice y)) q) r

same_three : (x y : ℕ) → x / 262144 ≡ y / 262144 → x / 4096 % 64 ≡ y / 4096 % 64 → x / 64 % 64 ≡ y / 64 % 64 → x % 64 ≡ y % 64 → x ≡ y
same_three x y p q = same_two x y (same_digits (x / 4096) (y / 4096) (thrice x ∙ p ∙ sym (thrice y)) q)

without : (n x y : ℕ) → n + x ≡ n + y → x ≡ y
without n x y e = omega arith

-- no two code points have the same octets
pub utf8_once : (c d : ℕ) → utf8 c ≡ utf8 d → c ≡ d
utf8_once c d = by_form (λ l. l ≡ utf8 d → c ≡ d) c ones twos threes fours
  where
    ones : c < 0x80 → c ∷ [] ≡ utf8 d → c ≡ d
    ones h =
        by_form (λ m. c ∷ [] ≡ m → c ≡ d) d (λ l e. let p = ap (λ m. get_or m 0 0) e in omega arith) (λ l u e. let n = ap length e in omega arith)
        (λ l u e. let n = ap length e in omega arith) (λ l e. let n = ap length e in omega arith)

    twos : 0x80 ≤ c → c < 0x800 → two_octets c ≡ utf8 d → c ≡ d
    twos h i =
        by_form (λ m. two_octets c ≡ m → c ≡ d) d (λ l e. let n = ap length e in omega arith)
        (λ l u e. let p = ap (λ m. get_or m 0 0) e in let q = ap (λ m. get_or m 1 0) e in omega arith)
        (λ l u e. let n = ap length e in omega arith) (λ l e. let n = ap length e in omega arith)

    threes : 0x800 ≤ c → c < 0x10000 → three_octets c ≡ utf8 d → c ≡ d
    threes h i =
        by_form (λ m. three_octets c ≡ m → c ≡ d) d (λ l e. let n = ap length e in omega arith) (λ l u e. let n = ap length e in omega arith)
        (λ l u e. same_two c d (without 0xE0 _ _ (ap (λ m. get_or m 0 0) e)) (without 0x80 _ _ (ap (λ m. get_or m 1 0) e)) (without 0x80 _ _ (ap (λ m. get_or m 2 0) e)))
        (λ l e. let n = ap length e in omega arith)

    fours : 0x10000 ≤ c → four_octets c ≡ utf8 d → c ≡ d
    fours h =
        by_form (λ m. four_octets c ≡ m → c ≡ d) d (λ l e. let n = ap length e in omega arith) (λ l u e. let n = ap length e in omega arith)
        (λ l u e. let n = ap length e in omega arith)
        (λ l e. same_three c d (without 0xF0 _ _ (ap (λ m. get_or m 0 0) e)) (without 0x80 _ _ (ap (λ m. get_or m 1 0) e)) (without 0x80 _ _ (ap (λ m. get_or m 2 0) e)) (without 0x80 _ _ (ap (λ m. get_or m 3 0) e)))
