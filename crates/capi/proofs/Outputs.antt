-- Answers of applying as numbers. Assumes nothing.
use Rattle.std.specs.Prelude.{Result, Ok, Err}
use mathlib.Core.Path.{◌≡◌, sym, ◌∙◌, ap}
use mathlib.Core.List.{List, [], ◌∷◌}
use Prim.Native.Nat.{ℕ}
use borrow.Author.Rules.{rules}
use Rattle.table_rows.specs.Tables.{tables}
use Rattle.tables.specs.declared.check.Used.{Used}
use Rattle.apply_rule.specs.Applying.{apply_answer, apply_output, applied_numbers}
use Rattle.tables.specs.Check.{used_by}
use Rattle.apply_rule.specs.declared.ApplyError.{ApplyError}
use Rattle.apply_rule.specs.declared.ApplyError.TheVariants.{Malformed, TooLong, BadTree, NoRoom}

module _ {r : Result ℕ ApplyError} where
  pub applied_done : {n : ℕ} → r ≡ Ok n → 0 ∷ n ∷ [] ≡ applied_numbers r
  applied_done e = sym (ap applied_numbers e)

  pub applied_malformed : r ≡ Err Malformed → 14 ∷ 0 ∷ [] ≡ applied_numbers r
  applied_malformed e = sym (ap applied_numbers e)

  pub applied_long : r ≡ Err TooLong → 1 ∷ 0 ∷ [] ≡ applied_numbers r
  applied_long e = sym (ap applied_numbers e)

  pub applied_bad : r ≡ Err BadTree → 12 ∷ 0 ∷ [] ≡ applied_numbers r
  applied_bad e = sym (ap applied_numbers e)

  pub applied_none : r ≡ Err NoRoom → 13 ∷ 0 ∷ [] ≡ applied_numbers r
  applied_none e = sym (ap applied_numbers e)

pub ruleset applied_numbered = (applied_done, applied_malformed, applied_long, applied_bad, applied_none, rules)

-- What is written is the answer of applying, by the counts that C hands over.
module _ (c m : List (List ℕ)) (p n class f : List ℕ) (room : ℕ) {u : Used} (e : u ≡ used_by n) where
  pub apply_written : {r : Result ℕ ApplyError} → r ≡ apply_answer (tables c m p) u class f room → {a : List ℕ} → a ≡ applied_numbers r →
      a ≡ applied_numbers (apply_answer (tables c m p) (used_by n) class f room)
  apply_written g h = h ∙ ap applied_numbers (g ∙ ap (λ x. apply_answer (tables c m p) x class f room) e)

  pub apply_output_lem : {o : List ℕ} → o ≡ apply_output (tables c m p) u class f room → o ≡ apply_output (tables c m p) (used_by n) class f room
  apply_output_lem g = g ∙ ap (λ x. apply_output (tables c m p) x class f room) e

pub ruleset apply_written_out = (apply_written, apply_output_lem, rules)
