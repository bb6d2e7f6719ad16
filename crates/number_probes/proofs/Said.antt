-- What an answer says is what its rule says, case by case. Assumes nothing.
use Rattle.std.specs.Prelude.{Option, Some, None}
use mathlib.Core.Path.{◌≡◌, sym, ◌∙◌}
use mathlib.Core.Bool.{Bool}
use mathlib.Core.List.{[], ◌∷◌}
use Prim.Native.Nat.{ℕ}
use borrow.Author.Rules.{rules}
use Rattle.ground.specs.Choice.{bit}
use Rattle.number_probes.specs.Answers.{number_numbers, leading_numbers, trailing_numbers}
use Rattle.number.specs.declared.range.LeadingRange.{LeadingRange}
use Rattle.number.specs.Ranges.{leading_taken, trailing_taken}
use Rattle.number.specs.declared.range.TrailingRange.{TrailingRange}

module _ {t x : Option ℕ} (e : t ≡ x) where
  pub said_value : {v : ℕ} → t ≡ Some v → 1 ∷ v ∷ [] ≡ number_numbers x
  said_value g = sym (rw (sym e ∙ g))

  pub said_unread : t ≡ None → 0 ∷ 0 ∷ [] ≡ number_numbers x
  said_unread g = sym (rw (sym e ∙ g))

module _ {t x : Option LeadingRange} (e : t ≡ x) where
  pub said_leading : {y : LeadingRange} → t ≡ Some y → 1 ∷ y.start ∷ y.«end» ∷ y.rest ∷ [] ≡ leading_numbers x
  said_leading g = sym (rw (sym e ∙ g))

  pub said_no_leading : t ≡ None → 0 ∷ 0 ∷ 0 ∷ 0 ∷ [] ≡ leading_numbers x
  said_no_leading g = sym (rw (sym e ∙ g))

module _ {t x : Option TrailingRange} (e : t ≡ x) where
  pub said_trailing : {y : TrailingRange} {n : ℕ} → t ≡ Some y → n ≡ bit y.second_unread → 1 ∷ y.start ∷ y.«end» ∷ n ∷ [] ≡ trailing_numbers x
  said_trailing g b = sym (rw (sym e ∙ g, b))

  pub said_no_trailing : t ≡ None → 0 ∷ 0 ∷ 0 ∷ 0 ∷ [] ≡ trailing_numbers x
  said_no_trailing g = sym (rw (sym e ∙ g))

pub ruleset said = (said_value, said_unread, said_leading, said_no_leading, said_trailing, said_no_trailing, rules)
