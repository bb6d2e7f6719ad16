-- What an answer says is what its rule says, case by case. Assumes nothing.
use Rattle.std.specs.Prelude.{Option, Some, None, Result, Ok, Err}
use mathlib.Core.Path.{◌≡◌, refl, sym, ◌∙◌}
use mathlib.Core.Bool.{Bool}
use mathlib.Core.List.{List, [], ◌∷◌}
use Prim.Native.Nat.{ℕ, ◌+◌, ◌^◌, ◌<◌}
use native.Mathlib.Omega.{arith}
use lib.ListN.{length}
use borrow.Author.Rules.{rules}
use Rattle.ground.specs.Choice.{bit}
use Rattle.ground.proofs.Cases.{bit_told}
use Rattle.text_utf8.specs.declared.sequence.Sequence.{Sequence}
use Rattle.text_utf8.specs.declared.sequence.Sequence.TheVariants.{End, Good, Bad}
use Rattle.text_places.specs.declared.spans.Span.{Span}
use Rattle.text_places.specs.Places.{first_where, last_where, place_number}
use Rattle.text_white.specs.Trim.{trim_start, trim_end, trim_both, after_marks, starts_white, first_white, last_white}
use Rattle.text_places.proofs.PlaceLaws.{first_inside, last_inside, place_fits}
use Rattle.text_probes.specs.Answers.{trim_numbers, sequence_numbers, check_numbers, next_line_numbers}
use Rattle.text_places.specs.declared.lines.NextLine.{NextLine}
use Rattle.text_places.specs.Inner.NextLine.{taken_line}
use Rattle.text_utf8.specs.declared.check.Broken.{Broken}
use Rattle.text_utf8.specs.Utf8.{broken}

module _ {t x : Sequence} (e : t ≡ x) where
  pub said_end : t ≡ End → 0 ∷ 0 ∷ 0 ∷ [] ≡ sequence_numbers x
  said_end g = sym (rw (sym e ∙ g))

  pub said_good : {d m : ℕ} → t ≡ Good d m → 1 ∷ d ∷ m ∷ [] ≡ sequence_numbers x
  said_good g = sym (rw (sym e ∙ g))

  pub said_bad : {m : ℕ} → t ≡ Bad m → 2 ∷ 0 ∷ m ∷ [] ≡ sequence_numbers x
  said_bad g = sym (rw (sym e ∙ g))

module _ {t x : Result Unit Broken} (e : t ≡ x) where
  pub said_valid : t ≡ Ok tt → 0 ∷ 0 ∷ 0 ∷ [] ≡ check_numbers x
  said_valid g = sym (rw (sym e ∙ g))

  pub said_broken : {y : Broken} → t ≡ Err y → 1 ∷ y.at ∷ y.length ∷ [] ≡ check_numbers x
  said_broken g = sym (rw (sym e ∙ g))

module _ {t x : Option NextLine} (e : t ≡ x) where
  pub said_line : {y : NextLine} → t ≡ Some y → 1 ∷ y.start ∷ y.«end» ∷ y.next ∷ [] ≡ next_line_numbers x
  said_line g = sym (rw (sym e ∙ g))

  pub said_no_line : t ≡ None → 0 ∷ 0 ∷ 0 ∷ 0 ∷ [] ≡ next_line_numbers x
  said_no_line g = sym (rw (sym e ∙ g))

pub ruleset said = (said_end, said_good, said_bad, said_valid, said_broken, said_line, said_no_line, rules)

-- A test, and a place in a text, as numbers.
counts : (n : ℕ) (o : Option ℕ) → ((i : ℕ) → o ≡ Some i → i < n) → n < 2 ^ 64 → place_number o < 2 ^ 64
counts n (Some i) f h = let l = f i refl in omega arith
counts n None f h = omega arith

pub first_counts : (p : List ℕ → Bool) (s : List ℕ) {o : Option ℕ} → o ≡ first_where p s → length s < 2 ^ 64 → place_number o < 2 ^ 64
first_counts p s {o} e = counts (length s) o (λ i g. first_inside p s (sym e ∙ g))

pub last_counts : (p : List ℕ → Bool) (s : List ℕ) {o : Option ℕ} → o ≡ last_where p s → length s < 2 ^ 64 → place_number o < 2 ^ 64
last_counts p s {o} e = counts (length s) o (λ i g. last_inside p s (sym e ∙ g))

pub place_at : {o : Option ℕ} {i : ℕ} → o ≡ Some i → i + 1 ≡ place_number o
place_at e = sym (rw e)

pub place_none : {o : Option ℕ} → o ≡ None → 0 ≡ place_number o
place_none e = sym (rw e)

-- all the trims of a text, put together
pub all_trims :
    (s : List ℕ) {v : Span} {a b m n x y : ℕ} {w : Bool} {p q : Option ℕ} →
    v ≡ trim_both s → a ≡ trim_start s → b ≡ trim_end s → m ≡ after_marks s → w ≡ starts_white s → n ≡ bit w →
    p ≡ first_white s → x ≡ place_number p → q ≡ last_white s → y ≡ place_number q →
    a ∷ b ∷ v.start ∷ v.«end» ∷ m ∷ n ∷ x ∷ y ∷ [] ≡ trim_numbers s
all_trims s ev ea eb em ew en ep ex eq ey = rw (ev, ea, eb, em, en, ew, ex, ep, ey, eq)

pub ruleset counted = (bit_told, all_trims, first_counts, last_counts, place_at, place_none, place_fits, rules)
