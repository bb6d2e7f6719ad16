-- The answers of look-ups of members as numbers. Assumes nothing.
use Rattle.std.specs.Prelude.{Option, Some, None, Result, Ok, Err}
use mathlib.Core.Path.{◌≡◌, sym, ◌∙◌, ap}
use mathlib.Core.List.{List, [], ◌∷◌}
use Prim.Native.Nat.{ℕ}
use borrow.Author.Rules.{rules}
use Rattle.table_rows.specs.Tables.{tables}
use Rattle.tables.specs.declared.check.Used.{Used}
use Rattle.tables.specs.declared.check.Malformed.{Malformed}
use Rattle.name_lines.specs.declared.lines.RawLine.{RawLine}
use Rattle.name_rule.specs.MemberNames.{Key}
use Rattle.name_members.specs.declared.names.MemberName.{MemberName}
use Rattle.name_members.specs.declared.names.MemberLine.{MemberLine}
use Rattle.name_members.specs.MemberAnswers.{field_answer, method_answer, line_answer, name_numbers, line_numbers}
use Rattle.tables.specs.Check.{used_by, malformed}

module _ {r : Result (Option MemberName) Malformed} where
  pub name_found : {x : MemberName} → r ≡ Ok (Some x) → 0 ∷ 1 ∷ x.row ∷ x.place ∷ x.length ∷ [] ≡ name_numbers r
  name_found e = sym (ap name_numbers e)

  pub name_unknown : r ≡ Ok None → 0 ∷ 0 ∷ 0 ∷ 0 ∷ 0 ∷ [] ≡ name_numbers r
  name_unknown e = sym (ap name_numbers e)

  pub name_malformed : r ≡ Err malformed → 14 ∷ 0 ∷ 0 ∷ 0 ∷ 0 ∷ [] ≡ name_numbers r
  name_malformed e = sym (ap name_numbers e)

module _ {r : Result (Option MemberLine) Malformed} where
  pub line_found : {x : MemberLine} → r ≡ Ok (Some x) → 0 ∷ 1 ∷ x.row ∷ x.line.0 ∷ [] ≡ line_numbers r
  line_found e = sym (ap line_numbers e)

  pub line_unknown : r ≡ Ok None → 0 ∷ 0 ∷ 0 ∷ 0 ∷ [] ≡ line_numbers r
  line_unknown e = sym (ap line_numbers e)

  pub line_malformed : r ≡ Err malformed → 14 ∷ 0 ∷ 0 ∷ 0 ∷ [] ≡ line_numbers r
  line_malformed e = sym (ap line_numbers e)

pub ruleset members_numbered = (name_found, name_unknown, name_malformed, line_found, line_unknown, line_malformed, rules)

-- What is written is the answer of the look-up, by the counts that C hands over.
module _ (c m : List (List ℕ)) (p n : List ℕ) (k : Key) {u : Used} (e : u ≡ used_by n) {a : List ℕ} where
  module _ {r : Result (Option MemberName) Malformed} (g : a ≡ name_numbers r) where
    pub field_written : r ≡ field_answer (tables c m p) u k → a ≡ name_numbers (field_answer (tables c m p) (used_by n) k)
    field_written f = g ∙ ap name_numbers (f ∙ ap (λ x. field_answer (tables c m p) x k) e)

    pub method_written : r ≡ method_answer (tables c m p) u k → a ≡ name_numbers (method_answer (tables c m p) (used_by n) k)
    method_written f = g ∙ ap name_numbers (f ∙ ap (λ x. method_answer (tables c m p) x k) e)

  pub line_written : (l : RawLine) {r : Result (Option MemberLine) Malformed} → r ≡ line_answer (tables c m p) u k l → a ≡ line_numbers r →
      a ≡ line_numbers (line_answer (tables c m p) (used_by n) k l)
  line_written l f g = g ∙ ap line_numbers (f ∙ ap (λ x. line_answer (tables c m p) x k l) e)

pub ruleset members_written = (field_written, method_written, line_written, rules)
