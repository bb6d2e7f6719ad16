-- The check of a whole text: what is found from here on is what is found of the whole. Assumes nothing.
use Rattle.std.specs.Prelude.{Result, Ok, Err}
use mathlib.Core.Path.{◌≡◌, refl, sym, ◌∙◌, ap}
use mathlib.Core.Bool.{true, false}
use mathlib.Core.List.{List}
use Prim.Native.Nat.{ℕ, zero, suc, ◌+◌, ◌-◌, ◌≤◌, ◌<◌}
use native.Mathlib.Omega.{arith}
use mathlib.Core.Logic.{◌⊎◌, inl, inr}
use lib.ListN.{length, get_or, take, drop, length-drop}
use lib.Seq.{get_or-take, get_or-drop, length-take-le}
use borrow.Author.Rules.{rules}
use Rattle.ground.proofs.Cases.{le_or_lt, clash}
use Rattle.text_utf8.specs.declared.sequence.Sequence.{Sequence}
use Rattle.text_utf8.specs.declared.sequence.Sequence.TheVariants.{Good}
use Rattle.text_utf8.specs.Utf8.{sequence_of, pieces, check_from, check_of, is_valid, is_utf8, broken}
use Rattle.text_utf8.specs.Inner.Runs.{AsciiTo}
use Rattle.text_utf8.proofs.Sequences.{sequence_ascii}
use Rattle.text_utf8.proofs.Pieces.{pieces_past, pieces_on, good_inside}
use Rattle.text_utf8.specs.declared.check.Broken.{Broken}

pub record Checked (s : List ℕ) (at : ℕ) : Type 0 where
  pub inside : at ≤ length s
  pub decides : check_from at (pieces (drop at s)) ≡ check_of s

pub checked_none : (s : List ℕ) → Checked s 0
checked_none s = record { inside = omega arith; decides = refl }

module _ {s : List ℕ} {at : ℕ} (c : Checked s at) where
  pub checked_all : length s ≤ at → Ok tt ≡ check_of s
  unfolding check_from
  checked_all h = rw (pieces_past s at h) at c.decides

  module _ {t : Sequence} (e : t ≡ sequence_of (drop at s)) where
    pub checked_good : {d m : ℕ} → t ≡ Good d m → Checked s (at + m)
    unfolding check_from
    checked_good g = record {
      inside = (good_inside s at (sym e ∙ g)).1;
      decides = rw (pieces_on s at (sym e ∙ g)) at c.decides;
    }

  pub checked_ascii : at < length s → get_or s at 0 < 0x80 → Checked s (at + 1)
  checked_ascii h a = checked_good refl (sym (sequence_ascii s at h a))

-- a run of ASCII, byte by byte
checked_steps : (n : ℕ) {s : List ℕ} {at to : ℕ} → to - at ≤ n → Checked s at → AsciiTo s at to → Checked s to
checked_steps zero {s} {at} {to} b c a = let q : at ≡ to = omega (arith, a.goes) in rw q at c
checked_steps (suc n) {s} {at} {to} b c a = go (le_or_lt to at) (λ d e. checked_steps n (omega arith) d e)
  where
    go : (to ≤ at) ⊎ (at < to) → (Checked s (at + 1) → AsciiTo s (at + 1) to → Checked s to) → Checked s to
    go (inl g) again = let q : at ≡ to = omega (arith, a.goes) in rw q at c
    go (inr g) again =
        again
        (checked_ascii c (omega (arith, a.inside)) (let l = a.each at (omega arith) g in omega arith))
        (record { goes = omega arith; inside = a.inside; each = λ i l u. a.each i (omega arith) u })

pub checked_run : {s : List ℕ} {at to : ℕ} → Checked s at → AsciiTo s at to → Checked s to
checked_run {s} {at} {to} c a = checked_steps (to - at) (omega arith) c a

pub checked_first : {s : List ℕ} {to : ℕ} → AsciiTo s 0 to → Checked s to
checked_first {s} a = checked_run (checked_none s) a

-- an ASCII byte, and a run of such after it
module _ {s : List ℕ} {at to : ℕ} (c : Checked s at) (h : at < length s) (b : get_or s at 0 < 0x80) (a : AsciiTo s (at + 1) to) where
  pub checked_runs : Checked s to
  checked_runs = checked_run (checked_ascii c h b) a

  pub runs_fall : length s - to < length s - at
  runs_fall = omega (arith, a.goes)

-- Whether a text is UTF-8, by what its check says.
module _ (s : List ℕ) {t : Result Unit Broken} (e : t ≡ check_of s) where
  pub utf8_yes : t ≡ Ok tt → true ≡ is_utf8 s
  utf8_yes f = ap is_valid (sym f ∙ e)

  pub utf8_no : {at m : ℕ} → t ≡ Err (broken at m) → false ≡ is_utf8 s
  utf8_no f = ap is_valid (sym f ∙ e)

pub ruleset validity = (utf8_yes, utf8_no, rules)

pub valid_told : (s : List ℕ) → is_utf8 s ≡ true → check_of s ≡ Ok tt
valid_told s e = go (check_of s) e
  where
    go : (o : Result Unit Broken) → is_valid o ≡ true → o ≡ Ok tt
    go (Ok _) e = refl
    go (Err r) e = clash e refl

-- ASCII is UTF-8, and so is each part of it
pub ascii_utf8 : (s : List ℕ) → AsciiTo s 0 (length s) → true ≡ is_utf8 s
ascii_utf8 s a = ap is_valid (checked_all (checked_first a) (omega arith))

pub ascii_part : (s : List ℕ) {to : ℕ} → AsciiTo s 0 to → (place size : ℕ) → place + size ≤ to → true ≡ is_utf8 (take size (drop place s))
ascii_part s {to} a place size h =
    let l : length (take size (drop place s)) ≡ size = length-take-le size (drop place s) (omega (arith, length-drop place s, a.inside)) in
    ascii_utf8 (take size (drop place s)) (record {
      goes = omega arith;
      inside = omega arith;
      each = λ i b u.
          rw (get_or-take size (drop place s) i 0 (omega arith), get_or-drop place s i 0) (a.each (place + i) (omega arith) (omega arith));
    })
