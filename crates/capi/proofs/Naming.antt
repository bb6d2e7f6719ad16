-- The answers of look-ups as numbers. Assumes nothing.
use Rattle.std.specs.Prelude.{Option, Some, None, Result, Ok, Err}
use mathlib.Core.Path.{◌≡◌, sym, ◌∙◌, ap}
use mathlib.Core.List.{List, [], ◌∷◌}
use Prim.Native.Nat.{ℕ}
use borrow.Author.Rules.{rules}
use Rattle.table_rows.specs.Tables.{tables}
use Rattle.tables.specs.declared.check.Used.{Used}
use Rattle.table_rows.specs.declared.rows.Text.{Text}
use Rattle.tables.specs.declared.check.Malformed.{Malformed}
use Rattle.name_classes.specs.ClassNames.{display_of_class, raw_of_class, class_name_numbers}
use Rattle.tables.specs.Check.{used_by, malformed}
use Rattle.capi.specs.Answers.{mapped_numbers}

module _ {r : Result (Option Text) Malformed} where
  pub found_numbers : {x : Text} → r ≡ Ok (Some x) → 0 ∷ 1 ∷ x.place ∷ x.length ∷ [] ≡ class_name_numbers r
  found_numbers e = sym (ap class_name_numbers e)

  pub unknown_numbers : r ≡ Ok None → 0 ∷ 0 ∷ 0 ∷ 0 ∷ [] ≡ class_name_numbers r
  unknown_numbers e = sym (ap class_name_numbers e)

  pub malformed_numbers : r ≡ Err malformed → 14 ∷ 0 ∷ 0 ∷ 0 ∷ [] ≡ class_name_numbers r
  malformed_numbers e = sym (ap class_name_numbers e)

  pub mapped_found : {x : Text} → r ≡ Ok (Some x) → 1 ∷ x.place ∷ x.length ∷ [] ≡ mapped_numbers r
  mapped_found e = sym (ap mapped_numbers e)

  pub mapped_unknown : r ≡ Ok None → 0 ∷ 0 ∷ 0 ∷ [] ≡ mapped_numbers r
  mapped_unknown e = sym (ap mapped_numbers e)

  pub mapped_malformed : r ≡ Err malformed → 0 ∷ 0 ∷ 0 ∷ [] ≡ mapped_numbers r
  mapped_malformed e = sym (ap mapped_numbers e)

pub ruleset numbered = (found_numbers, unknown_numbers, malformed_numbers, mapped_found, mapped_unknown, mapped_malformed, rules)

-- What is written is the answer of the look-up, by the counts that C hands over.
module _ (c m : List (List ℕ)) (p n name : List ℕ) {u : Used} (e : u ≡ used_by n) {r : Result (Option Text) Malformed} {a : List ℕ} where
  pub display_written : r ≡ display_of_class (tables c m p) u name → a ≡ class_name_numbers r → a ≡ class_name_numbers (display_of_class (tables c m p) (used_by n) name)
  display_written f g = g ∙ ap class_name_numbers (f ∙ ap (λ x. display_of_class (tables c m p) x name) e)

  pub raw_written : r ≡ raw_of_class (tables c m p) u name → a ≡ class_name_numbers r → a ≡ class_name_numbers (raw_of_class (tables c m p) (used_by n) name)
  raw_written f g = g ∙ ap class_name_numbers (f ∙ ap (λ x. raw_of_class (tables c m p) x name) e)

  pub mapped_written : r ≡ display_of_class (tables c m p) u name → a ≡ mapped_numbers r → a ≡ mapped_numbers (display_of_class (tables c m p) (used_by n) name)
  mapped_written f g = g ∙ ap mapped_numbers (f ∙ ap (λ x. display_of_class (tables c m p) x name) e)

pub ruleset writing = (display_written, raw_written, mapped_written, rules)
