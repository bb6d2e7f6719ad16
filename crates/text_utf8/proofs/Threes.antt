-- The check of a text, character by character; those of three octets are mostly told without reading their sequence. Assumes nothing.
use Rattle.std.specs.Prelude.{Result, Ok, Err}
use mathlib.Core.Path.{◌≡◌, refl, sym, ◌∙◌, ap}
use mathlib.Core.Bool.{Bool, true, false}
use mathlib.Core.List.{List, ◌∷◌}
use Prim.Native.Nat.{ℕ, suc, ◌+◌, ◌-◌, ◌^◌, ◌≤◌, ◌<◌}
use native.Mathlib.Omega.{arith}
use lib.Dec.{leb}
use lib.ListN.{length, get_or, drop}
use lib.Seq.{drop-cons}
use mir.Val.{Fits}
use mir.Syntax.{w64}
use borrow.Author.Rules.{rules}
use borrow.Author.Tests.{le-leb}
use Rattle.ground.specs.Abnf.{octet, ◌⨾◌, left, right}
use Rattle.ground.specs.Choice.{within}
use Rattle.ground.proofs.Cases.{within_yes, within_low, clash}
use Rattle.text_utf8.specs.declared.sequence.Sequence.{Sequence}
use Rattle.text_utf8.specs.declared.sequence.Sequence.TheVariants.{End, Good, Bad}
use Rattle.text_utf8.specs.Utf8.{sequence_of, pieces, check_from, check_of, broken}
use Rattle.text_utf8.specs.Inner.Runs.{Three, good_length}
use Rattle.text_utf8.proofs.Sequences.{end_empty}
use Rattle.text_utf8.proofs.Pieces.{pieces_none, pieces_bad, good_inside, good_past_fits, good_past_falls}
use Rattle.text_utf8.proofs.Grammatical.{char_reads}
use Rattle.text_utf8.proofs.Checking.{Checked, checked_first, checked_runs, runs_fall, checked_all, checked_good}
use Rattle.text_utf8.proofs.RunLaws.{ascii_inside}
use Rattle.text_utf8.specs.declared.check.Broken.{Broken}

module _ (b : ℕ) where
  pub tail_low : b < 0x80 → false ≡ within 0x80 0xBF b
  tail_low h = sym (within_low 0x80 0xBF b h)

  pub tail_high : 0x80 ≤ b → leb b 0xBF ≡ within 0x80 0xBF b
  tail_high h = rw (le-leb 0x80 b h)

pub ruleset tail_octet = (tail_low, tail_high, rules)

module _ (s : List ℕ) (at : ℕ) (h : 3 ≤ length s - at) where
  pub three_inside : at + 2 < length s
  three_inside = omega arith

  pub three_here : drop at s ≡ get_or s at 0 ∷ get_or s (at + 1) 0 ∷ get_or s (at + 2) 0 ∷ drop (at + 3) s
  three_here =
      let one : suc at ≡ at + 1 = omega arith in
      let two : suc (at + 1) ≡ at + 2 = omega arith in
      let three : suc (at + 2) ≡ at + 3 = omega arith in
      rw one at (drop-cons s at 0 (omega arith)) ∙ ap (λ l. get_or s at 0 ∷ l) (rw two at (drop-cons s (at + 1) 0 (omega arith))
      ∙ ap (λ l. get_or s (at + 1) 0 ∷ l) (rw three at (drop-cons s (at + 2) 0 (omega arith))))

  module _ (l : 0xE1 ≤ get_or s at 0) (u : get_or s at 0 ≤ 0xEC) {p q : Bool} (e : p ≡ within 0x80 0xBF (get_or s (at + 1) 0)) (f : q ≡ within 0x80 0xBF (get_or s (at + 2) 0)) where
    pub three_stands : p ≡ true → q ≡ true → Three s at
    three_stands g h =
        let first = octet (get_or s at 0) (within_yes 0xE1 0xEC (get_or s at 0) l u) in
        let second = octet (get_or s (at + 1) 0) (sym e ∙ g) in
        let third = octet (get_or s (at + 2) 0) (sym f ∙ h) in
        let (d, i) = char_reads (right (right (left (right (left (first ⨾ second ⨾ third)))))) (drop (at + 3) s) in
        record { code = d; good = ap sequence_of three_here ∙ i }

pub three_none : (s : List ℕ) (at : ℕ) → false ≡ true → Three s at
three_none s at e = clash e refl

pub ruleset threes = (three_inside, three_stands, three_none, rules)

-- The length of the character at a place, by three octets or by its sequence.
module _ (s : List ℕ) (at : ℕ) where
  pub length_three : {r : Bool} → (r ≡ true → Three s at) → r ≡ true → 3 ≡ good_length (sequence_of (drop at s))
  length_three f e = ap good_length (sym (f e).good)

  module _ {t : Sequence} (e : t ≡ sequence_of (drop at s)) where
    pub length_end : t ≡ End → 0 ≡ good_length (sequence_of (drop at s))
    length_end f = ap good_length (sym f ∙ e)

    pub length_good : {d m : ℕ} → t ≡ Good d m → m ≡ good_length (sequence_of (drop at s))
    length_good f = ap good_length (sym f ∙ e)

    pub length_bad : {m : ℕ} → t ≡ Bad m → 0 ≡ good_length (sequence_of (drop at s))
    length_bad f = ap good_length (sym f ∙ e)

    pub bad_end : t ≡ End → Ok tt ≡ check_from at (pieces (drop at s))
    unfolding check_from
    bad_end f = rw (pieces_none (drop at s) (end_empty (drop at s) (sym e ∙ f)))

    pub bad_good : good_length (sequence_of (drop at s)) ≡ 0 → {d m : ℕ} → t ≡ Good d m → Ok tt ≡ check_from at (pieces (drop at s))
    bad_good z f = absurd (let l = length_good f in let i = good_inside s at (sym e ∙ f) in omega arith)

    pub bad_bad : {m : ℕ} → t ≡ Bad m → Err (broken at m) ≡ check_from at (pieces (drop at s))
    unfolding check_from
    bad_bad f = rw (pieces_bad (drop at s) (sym e ∙ f))

pub ruleset lengths = (length_three, length_end, length_good, length_bad, rules)

pub ruleset bad_places = (bad_end, bad_good, bad_bad, rules)

-- Where there is a character, there is a sequence of its length.
good_stands : (l : List ℕ) → (good_length (sequence_of l) ≡ 0 → ⊥) → (d : ℕ) × (sequence_of l ≡ Good d (good_length (sequence_of l)))
good_stands l n = go (sequence_of l) n
  where
    go : (t : Sequence) → (good_length t ≡ 0 → ⊥) → (d : ℕ) × (t ≡ Good d (good_length t))
    go End m = absurd (m refl)
    go (Good d k) m = (d, refl)
    go (Bad k) m = absurd (m refl)

module _ {s : List ℕ} {at : ℕ} (c : Checked s at) {r : ℕ} (e : r ≡ good_length (sequence_of (drop at s))) where
  pub checked_zero : r ≡ 0 → good_length (sequence_of (drop at s)) ≡ 0
  checked_zero z = sym e ∙ z

  pub checked_bad_at : {v : Result Unit Broken} → v ≡ check_from at (pieces (drop at s)) → v ≡ check_of s
  checked_bad_at f = f ∙ c.decides

  module _ (n : r ≡ 0 → ⊥) where
    stands : (d : ℕ) × (sequence_of (drop at s) ≡ Good d r)
    stands = rw (← e) at (good_stands (drop at s) (λ z. n (e ∙ z)))

    pub checked_length : Checked s (at + r)
    checked_length = checked_good c refl stands.1

    pub length_fits : length s < 2 ^ 64 → Fits w64 (at + r)
    length_fits b = good_past_fits s at b stands.1

    pub length_falls : length s - (at + r) < length s - at
    length_falls = good_past_falls s at stands.1

pub ruleset checking = (checked_first, checked_runs, runs_fall, ascii_inside, checked_all, checked_zero, checked_bad_at, checked_length, length_fits, length_falls, rules)
