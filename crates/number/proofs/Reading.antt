-- The reader of a number: what it reads from here on is what it reads of the whole. Assumes nothing.
use Rattle.std.specs.Prelude.{Option, Some, None}
use mathlib.Core.Path.{◌≡◌, refl, sym, ◌∙◌}
use mathlib.Core.Bool.{Bool, true, false}
use mathlib.Core.List.{List, [], ◌∷◌}
use Prim.Native.Nat.{ℕ, suc, ◌+◌, ◌*◌, ◌-◌, ◌≤◌, ◌<◌}
use native.Mathlib.Numerals.{add-one}
use native.Mathlib.Omega.{arith}
use lib.ListN.{length, get_or, drop, drop_of_length-le}
use lib.Seq.{drop-cons}
use borrow.Author.Tests.{le-leb, lt-leb, eq-eqb, ne_eqb}
use borrow.Author.Rules.{rules}
use Rattle.ground.specs.Choice.{pick, within}
use Rattle.ground.proofs.Cases.{within_yes, within_low, within_high}
use Rattle.number.specs.Numbers.{digits_from, plain, number_of}

-- a value that is too large stays so
digits_over : (v : ℕ) (s : List ℕ) → 4294967295 < v → digits_from v s ≡ None
unfolding digits_from
digits_over v [] h = rw (lt-leb v 4294967295 h)
digits_over v (x ∷ s) h = rw (digits_over (v * 10 + (x - 0x30)) s (omega arith)) (go (within 0x30 0x39 x))
  where
    go : (b : Bool) → pick {A = Option ℕ} b None None ≡ None
    go true = refl
    go false = refl

pub record Read (s : List ℕ) (start value at : ℕ) : Type 0 where
  pub inside : at ≤ length s
  pub small : value ≤ 4294967295
  pub decides : digits_from value (drop at s) ≡ plain (drop start s)

pub read_none : (s : List ℕ) (start : ℕ) → length s ≤ start → None ≡ plain (drop start s)
unfolding plain
read_none s start h = rw (drop_of_length-le s h)

pub read_starts : (s : List ℕ) (start : ℕ) → start < length s → Read s start 0 start
unfolding plain
read_starts s start h = record { inside = omega arith; small = omega arith; decides = rw (drop-cons s start 0 h) }

module _ {s : List ℕ} {start value at : ℕ} (r : Read s start value at) where
  pub read_all : length s ≤ at → Some value ≡ plain (drop start s)
  unfolding digits_from
  read_all h = rw (drop_of_length-le s h, le-leb value 4294967295 r.small) at r.decides

  module _ (h : at < length s) where
    pub read_low : get_or s at 0 < 0x30 → None ≡ plain (drop start s)
    unfolding digits_from
    read_low b = rw (drop-cons s at 0 h, within_low 0x30 0x39 (get_or s at 0) b) at r.decides

    pub read_high : 0x39 < get_or s at 0 → None ≡ plain (drop start s)
    unfolding digits_from
    read_high b = rw (drop-cons s at 0 h, within_high 0x30 0x39 (get_or s at 0) b) at r.decides

    module _ (l : 0x30 ≤ get_or s at 0) (u : get_or s at 0 ≤ 0x39) where
      goes : digits_from (value * 10 + (get_or s at 0 - 0x30)) (drop (suc at) s) ≡ plain (drop start s)
      unfolding digits_from
      goes = rw (drop-cons s at 0 h, within_yes 0x30 0x39 (get_or s at 0) l u) at r.decides

      pub read_over : 4294967295 < value * 10 + (get_or s at 0 - 0x30) → None ≡ plain (drop start s)
      read_over b = sym (digits_over (value * 10 + (get_or s at 0 - 0x30)) (drop (suc at) s) b) ∙ goes

      pub read_more : value * 10 + (get_or s at 0 - 0x30) ≤ 4294967295 → Read s start (value * 10 + (get_or s at 0 - 0x30)) (at + 1)
      read_more b = record { inside = omega arith; small = b; decides = rw add-one goes }

pub ruleset reading = (read_none, read_starts, read_all, read_low, read_high, read_over, read_more, rules)

-- The optional plus.
pub number_none : (s : List ℕ) → length s ≡ 0 → None ≡ number_of s
unfolding number_of
number_none [] h = refl
number_none (x ∷ s) h = absurd (omega arith)

pub number_plus : (s : List ℕ) {r : Option ℕ} → (length s ≡ 0 → ⊥) → get_or s 0 0 ≡ 0x2B → r ≡ plain (drop 1 s) → r ≡ number_of s
unfolding number_of
number_plus [] h e p = absurd (h refl)
number_plus (x ∷ s) h e p = p ∙ sym (rw (eq-eqb x 0x2B e))

pub number_plain : (s : List ℕ) {r : Option ℕ} → (length s ≡ 0 → ⊥) → (get_or s 0 0 ≡ 0x2B → ⊥) → r ≡ plain (drop 0 s) → r ≡ number_of s
unfolding number_of
number_plain [] h e p = absurd (h refl)
number_plain (x ∷ s) h e p = p ∙ sym (rw (ne_eqb x 0x2B e))

pub ruleset numbering = (number_none, number_plus, number_plain, rules)
