-- What a first octet settles, as the code finds it. Each fact is one test that antt computes over all bytes. Assumes nothing.
use mathlib.Core.Path.{◌≡◌}
use Prim.Native.Nat.{ℕ, suc, ◌-◌, ◌%◌, ◌≤◌, ◌<◌}
use lib.Dec.{eqb, lit<}
use lib.Count.{count_leading_zeros, leading_le}
use native.Mathlib.Omega.{arith}
use mir.Val.{Fits}
use mir.Syntax.{w64}
use borrow.Author.Tests.{eq-eqb, ne_eqb}
use borrow.Author.Rules.{rules}
use Rattle.ground.specs.Choice.{pick}
use Rattle.ground.proofs.Table.{range_equal, range_le}
use Rattle.text_utf8.specs.Utf8.{Lead, lead_of}

-- document 01: "the length of a sequence follows from the number of leading one bits in its first byte"
pub lead_octets : (x : ℕ) → 0xC2 ≤ x → x ≤ 0xF4 → count_leading_zeros 8 (255 - x) ≡ (lead_of x).octets
unfolding lead_of count_leading_zeros
lead_octets = range_equal 0xC2 0xF4 256 (lit< tt) (λ x. count_leading_zeros 8 (255 - x)) (λ x. (lead_of x).octets) tt

pub octets_fit : (x : ℕ) → Fits w64 (count_leading_zeros 8 (255 - x))
octets_fit x = record { fits = omega (arith, leading_le 8 (255 - x)) }

pub bits_of_two : (x : ℕ) → 0xC2 ≤ x → x < 0xE0 → x % 32 ≡ x - (lead_of x).mark
unfolding lead_of
bits_of_two x l h = range_equal 0xC2 0xDF 256 (lit< tt) (λ y. y % 32) (λ y. y - (lead_of y).mark) tt x l (omega arith)

pub bits_of_more : (x : ℕ) → 0xE0 ≤ x → x ≤ 0xF4 → x % 16 ≡ x - (lead_of x).mark
unfolding lead_of
bits_of_more = range_equal 0xE0 0xF4 256 (lit< tt) (λ x. x % 16) (λ x. x - (lead_of x).mark) tt

low_table : ℕ → ℕ
low_table x = pick (eqb x 0xE0) 0xA0 (pick (eqb x 0xF0) 0x90 0x80)

high_table : ℕ → ℕ
high_table x = pick (eqb x 0xED) 0x9F (pick (eqb x 0xF4) 0x8F 0xBF)

lead_low : (x : ℕ) → 0xC2 ≤ x → x ≤ 0xF4 → low_table x ≡ (lead_of x).low
unfolding lead_of low_table
lead_low = range_equal 0xC2 0xF4 256 (lit< tt) low_table (λ x. (lead_of x).low) tt

lead_high : (x : ℕ) → 0xC2 ≤ x → x ≤ 0xF4 → high_table x ≡ (lead_of x).high
unfolding lead_of high_table
lead_high = range_equal 0xC2 0xF4 256 (lit< tt) high_table (λ x. (lead_of x).high) tt

module _ (x : ℕ) (l : 0xC2 ≤ x) (h : x ≤ 0xF4) where
  pub low_e0 : x ≡ 0xE0 → 0xA0 ≡ (lead_of x).low
  unfolding low_table
  low_e0 e = rw (eq-eqb x 0xE0 e) at (lead_low x l h)

  pub low_f0 : (x ≡ 0xE0 → ⊥) → x ≡ 0xF0 → 0x90 ≡ (lead_of x).low
  unfolding low_table
  low_f0 n e = rw (ne_eqb x 0xE0 n, eq-eqb x 0xF0 e) at (lead_low x l h)

  pub low_other : (x ≡ 0xE0 → ⊥) → (x ≡ 0xF0 → ⊥) → 0x80 ≡ (lead_of x).low
  unfolding low_table
  low_other n m = rw (ne_eqb x 0xE0 n, ne_eqb x 0xF0 m) at (lead_low x l h)

  pub high_ed : x ≡ 0xED → 0x9F ≡ (lead_of x).high
  unfolding high_table
  high_ed e = rw (eq-eqb x 0xED e) at (lead_high x l h)

  pub high_f4 : (x ≡ 0xED → ⊥) → x ≡ 0xF4 → 0x8F ≡ (lead_of x).high
  unfolding high_table
  high_f4 n e = rw (ne_eqb x 0xED n, eq-eqb x 0xF4 e) at (lead_high x l h)

  pub high_other : (x ≡ 0xED → ⊥) → (x ≡ 0xF4 → ⊥) → 0xBF ≡ (lead_of x).high
  unfolding high_table
  high_other n m = rw (ne_eqb x 0xED n, ne_eqb x 0xF4 m) at (lead_high x l h)

pub ruleset leads = (lead_octets, octets_fit, bits_of_two, bits_of_more, low_e0, low_f0, low_other, high_ed, high_f4, high_other, rules)

-- the bounds that the readers of later octets rely on
pub record Bounds (l : Lead) (x : ℕ) : Type 0 where
  pub more : 2 ≤ l.octets
  pub most : l.octets ≤ 4
  pub floor : 0x80 ≤ l.low
  pub ceiling : l.high ≤ 0xBF
  pub bits : x - l.mark < 32

pub lead_bounds : (x : ℕ) → 0xC2 ≤ x → x ≤ 0xF4 → Bounds (lead_of x) x
unfolding lead_of
lead_bounds x l h = record {
  more = range_le 0xC2 0xF4 256 (lit< tt) (λ y. 2) (λ y. (lead_of y).octets) tt x l h;
  most = range_le 0xC2 0xF4 256 (lit< tt) (λ y. (lead_of y).octets) (λ y. 4) tt x l h;
  floor = range_le 0xC2 0xF4 256 (lit< tt) (λ y. 0x80) (λ y. (lead_of y).low) tt x l h;
  ceiling = range_le 0xC2 0xF4 256 (lit< tt) (λ y. (lead_of y).high) (λ y. 0xBF) tt x l h;
  bits = range_le 0xC2 0xF4 256 (lit< tt) (λ y. suc (y - (lead_of y).mark)) (λ y. 32) tt x l h;
}

-- no production begins with any other octet above 7F
pub lead_low_none : (x : ℕ) → 0x80 ≤ x → x ≤ 0xC1 → (lead_of x).octets ≡ 0
unfolding lead_of
lead_low_none = range_equal 0x80 0xC1 256 (lit< tt) (λ x. (lead_of x).octets) (λ x. 0) tt

pub lead_high_none : (x : ℕ) → 0xF5 ≤ x → x ≤ 0xFF → (lead_of x).octets ≡ 0
unfolding lead_of
lead_high_none = range_equal 0xF5 0xFF 256 (lit< tt) (λ x. (lead_of x).octets) (λ x. 0) tt
