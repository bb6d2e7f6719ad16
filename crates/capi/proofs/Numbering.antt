-- The answer as numbers. Assumes nothing.
use Rattle.std.specs.Prelude.{Result, Ok, Err}
use mathlib.Core.Path.{◌≡◌, sym, ◌∙◌, ap}
use mathlib.Core.List.{List, ◌∷◌}
use Prim.Native.Nat.{ℕ}
use lib.ListN.{replicate}
use borrow.Author.Rules.{rules}
use Rattle.capi.specs.Answers.{refusal_numbers, answer_numbers}
use Rattle.load_rule.specs.declared.Loaded.{Loaded}
use Rattle.load_rule.specs.declared.LoadError.{LoadError}
use Rattle.load_rule.specs.declared.LoadError.TheVariants.{Faulty, NotUtf8, TooLong, NoClasses, FewClassRows, FewMemberRows, ShortPool}
use Rattle.load_rule.specs.declared.Fault.{Fault}

pub loaded_numbers : {r : Result Loaded LoadError} {x : Loaded} → r ≡ Ok x →
    0 ∷ 0 ∷ 0 ∷ x.fates.lines ∷ x.fates.blank ∷ x.fates.applied ∷ x.fates.idle ∷ x.fates.class ∷ x.fates.field ∷ x.fates.method ∷ x.fates.short ∷ x.names ∷ replicate 12 0 ≡ answer_numbers r
loaded_numbers e = sym (ap answer_numbers e)

module _ {r : Result Loaded LoadError} {a : List ℕ} where
  pub too_long_numbers : r ≡ Err TooLong → a ≡ refusal_numbers 1 0 0 → a ≡ answer_numbers r
  too_long_numbers e f = f ∙ sym (ap answer_numbers e)

  pub not_utf8_numbers : {valid len : ℕ} → r ≡ Err (NotUtf8 valid len) → a ≡ refusal_numbers 2 valid len → a ≡ answer_numbers r
  not_utf8_numbers e f = f ∙ sym (ap answer_numbers e)

  pub faulty_numbers : {x : Fault} → r ≡ Err (Faulty x) → a ≡ refusal_numbers x.number x.line 0 → a ≡ answer_numbers r
  faulty_numbers e f = f ∙ sym (ap answer_numbers e)

  pub no_classes_numbers : r ≡ Err NoClasses → a ≡ refusal_numbers 8 0 0 → a ≡ answer_numbers r
  no_classes_numbers e f = f ∙ sym (ap answer_numbers e)

  pub few_class_rows_numbers : r ≡ Err FewClassRows → a ≡ refusal_numbers 9 0 0 → a ≡ answer_numbers r
  few_class_rows_numbers e f = f ∙ sym (ap answer_numbers e)

  pub few_member_rows_numbers : r ≡ Err FewMemberRows → a ≡ refusal_numbers 10 0 0 → a ≡ answer_numbers r
  few_member_rows_numbers e f = f ∙ sym (ap answer_numbers e)

  pub short_pool_numbers : r ≡ Err ShortPool → a ≡ refusal_numbers 11 0 0 → a ≡ answer_numbers r
  short_pool_numbers e f = f ∙ sym (ap answer_numbers e)

pub ruleset numbering =
    (loaded_numbers, too_long_numbers, not_utf8_numbers, faulty_numbers, no_classes_numbers, few_class_rows_numbers, few_member_rows_numbers, short_pool_numbers, rules)
