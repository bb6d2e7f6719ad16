-- Runs of ASCII, by blocks and by bytes. Assumes nothing.
use mathlib.Core.Path.{◌≡◌}
use mathlib.Core.List.{List}
use mathlib.Core.Logic.{◌⊎◌, inl, inr}
use Prim.Native.Nat.{ℕ, ◌+◌, ◌-◌, ◌≤◌, ◌<◌, max}
use native.Mathlib.Nat.{le_trans}
use native.Mathlib.Omega.{arith}
use lib.ListN.{length, get_or}
use borrow.Author.Rules.{rules}
use Rattle.ground.proofs.Cases.{le_or_lt}
use Rattle.ground.proofs.Stretch.{along_none, along_byte, along_more}
use Rattle.text_utf8.specs.Inner.Runs.{AsciiTo}

-- a bound of the bytes of a block that were passed
pub record Bounded (s : List ℕ) (at size greatest i : ℕ) : Type 0 where
  pub few : i ≤ size
  pub small : greatest < 256
  pub bounds : (k : ℕ) → k < i → get_or s (at + k) 0 ≤ greatest

pub bounded_none : (s : List ℕ) (at size : ℕ) → Bounded s at size 0 0
bounded_none s at size = record { few = omega arith; small = omega arith; bounds = λ k h. absurd (omega arith) }

module _ {s : List ℕ} {at size greatest i : ℕ} (b : Bounded s at size greatest i) where
  pub bounded_more : i < size → {r : ℕ} → r < 256 → r ≡ max greatest (get_or s (at + i) 0) → Bounded s at size r (i + 1)
  bounded_more h {r} f e = record { few = omega arith; small = f; bounds = λ k l. go k l (le_or_lt i k) }
    where
      go : (k : ℕ) → k < i + 1 → (i ≤ k) ⊎ (k < i) → get_or s (at + k) 0 ≤ r
      go k l (inl g) = let q : k ≡ i = omega arith in rw q (omega arith)
      go k l (inr g) = let p = b.bounds k g in omega arith

  pub bounded_all : size ≤ i → (k : ℕ) → k < size → get_or s (at + k) 0 ≤ greatest
  bounded_all h k l = b.bounds k (omega arith)

pub ruleset bounding = (bounded_none, bounded_more, bounded_all, rules)

pub ascii_none : (s : List ℕ) (at : ℕ) → at ≤ length s → AsciiTo s at at
ascii_none s at h = along_none (λ x. x ≤ 0x7F) s at h

module _ {s : List ℕ} {at to : ℕ} (a : AsciiTo s at to) where
  pub ascii_byte : to < length s → get_or s to 0 ≤ 0x7F → AsciiTo s at (to + 1)
  ascii_byte h b = along_byte a h b

  module _ {size : ℕ} (h : size ≤ length s - to) where
    pub ascii_room : to + size ≤ length s
    ascii_room = omega (arith, a.inside)

    pub ascii_block : {r : ℕ} → ((k : ℕ) → k < size → get_or s (to + k) 0 ≤ r) → r ≤ 0x7F → AsciiTo s at (to + size)
    ascii_block f b = along_more a size ascii_room (λ k l. le_trans (f k l) b)

pub ascii_on : {s : List ℕ} {at mid to : ℕ} → AsciiTo s at mid → AsciiTo s mid to → AsciiTo s at to
ascii_on {s} {at} {mid} {to} a b = record { goes = omega (arith, a.goes, b.goes); inside = b.inside; each = λ i l u. go i l u (le_or_lt mid i) }
  where
    go : (i : ℕ) → at ≤ i → i < to → (mid ≤ i) ⊎ (i < mid) → get_or s i 0 ≤ 0x7F
    go i l u (inl g) = b.each i g u
    go i l u (inr g) = a.each i l g

pub ascii_inside : {s : List ℕ} {at to : ℕ} → AsciiTo s at to → to ≤ length s
ascii_inside a = a.inside

pub ruleset ascii_starts = (ascii_none, ascii_on, ascii_inside, rules)

pub ruleset ascii_runs = (ascii_none, ascii_byte, ascii_room, ascii_block, rules)
