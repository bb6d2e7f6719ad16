-- Two outcomes that meet the contract of a C function are the same. What stands behind `λ` is the contract, `n` the three counts. Assumes
-- nothing.
use mathlib.Core.Path.{◌≡◌, sym, ◌∙◌}
use mathlib.Core.List.{List}
use Prim.Native.Nat.{ℕ}
use Rattle.ground.specs.Outcome.{OneOutcome}
use Rattle.ground.proofs.Outcomes.{one_value, same_pair}
use Rattle.table_rows.specs.Tables.{Tables, tables}
use Rattle.load_rule.specs.Loading.{lent_of, lines_parse, lines_str, answer_of, classes_left, members_left, pool_left}
use Rattle.name_lines.specs.LineNames.{raw_line}
use Rattle.name_rule.specs.MemberNames.{Key}
use Rattle.name_classes.specs.ClassNames.{display_of_class, display_numbers, raw_numbers}
use Rattle.name_members.specs.MemberAnswers.{field_name_numbers, method_name_numbers, line_numbers_of}
use Rattle.apply_rule.specs.Applying.{apply_output, apply_numbers}
use Rattle.tables.specs.Check.{used_by}
use Rattle.capi.specs.Answers.{answer_numbers, mapped_numbers}

-- the answer in numbers, and the tables that were lent
abbrev LoadOutcome : Type 0
LoadOutcome = List ℕ × Tables

same_tables : {c d m n : List (List ℕ)} {p o : List ℕ} → c ≡ d → m ≡ n → p ≡ o → tables c m p ≡ tables d n o
same_tables e f g = rw (e, f, g)

loaded_once : (s : List ℕ) (ls : List (List ℕ)) (lent : Tables) →
    OneOutcome
    (λ (o : LoadOutcome).
    (o.0 ≡ answer_numbers (answer_of s ls (lent_of lent)))
    × (o.1.classes ≡ classes_left s ls (lent_of lent))
    × (o.1.members ≡ members_left s ls (lent_of lent))
    × (o.1.pool ≡ pool_left s ls (lent_of lent)))
loaded_once s ls lent a b p q =
    same_pair (p.0 ∙ sym q.0) (same_tables (p.1 ∙ sym q.1) (p.2 ∙ sym q.2) (p.3 ∙ sym q.3))

module _ (s : List ℕ) (lent : Tables) where
  pub clumarief_parse_once :
      OneOutcome
      (λ (o : LoadOutcome).
      (o.0 ≡ answer_numbers (answer_of s (lines_parse s) (lent_of lent)))
      × (o.1.classes ≡ classes_left s (lines_parse s) (lent_of lent))
      × (o.1.members ≡ members_left s (lines_parse s) (lent_of lent))
      × (o.1.pool ≡ pool_left s (lines_parse s) (lent_of lent)))
  clumarief_parse_once = loaded_once s (lines_parse s) lent

  pub clumarief_parse_str_once :
      OneOutcome
      (λ (o : LoadOutcome).
      (o.0 ≡ answer_numbers (answer_of s (lines_str s) (lent_of lent)))
      × (o.1.classes ≡ classes_left s (lines_str s) (lent_of lent))
      × (o.1.members ≡ members_left s (lines_str s) (lent_of lent))
      × (o.1.pool ≡ pool_left s (lines_str s) (lent_of lent)))
  clumarief_parse_str_once = loaded_once s (lines_str s) lent

module _ (t : Tables) (n : List ℕ) where
  module _ (name : List ℕ) where
    pub clumarief_display_class_name_once : OneOutcome (λ r. r ≡ display_numbers t (used_by n) name)
    clumarief_display_class_name_once = one_value (display_numbers t (used_by n) name)

    pub clumarief_raw_class_name_once : OneOutcome (λ r. r ≡ raw_numbers t (used_by n) name)
    clumarief_raw_class_name_once = one_value (raw_numbers t (used_by n) name)

    pub clumarief_mapped_class_name_once : OneOutcome (λ r. r ≡ mapped_numbers (display_of_class t (used_by n) name))
    clumarief_mapped_class_name_once = one_value (mapped_numbers (display_of_class t (used_by n) name))

  module _ (k : Key) where
    pub clumarief_display_field_name_once : OneOutcome (λ r. r ≡ field_name_numbers t (used_by n) k)
    clumarief_display_field_name_once = one_value (field_name_numbers t (used_by n) k)

    pub clumarief_display_method_name_once : OneOutcome (λ r. r ≡ method_name_numbers t (used_by n) k)
    clumarief_display_method_name_once = one_value (method_name_numbers t (used_by n) k)

    pub clumarief_display_line_once : (l : ℕ) → OneOutcome (λ r. r ≡ line_numbers_of t (used_by n) k (raw_line l))
    clumarief_display_line_once l = one_value (line_numbers_of t (used_by n) k (raw_line l))

  -- the answer in numbers, and the output
  pub clumarief_apply_once : (class file : List ℕ) (room : ℕ) →
      OneOutcome
      (λ (o : List ℕ × List ℕ).
      (o.0 ≡ apply_numbers t (used_by n) class file room) × (o.1 ≡ apply_output t (used_by n) class file room))
  clumarief_apply_once class file room a b p q = same_pair (p.0 ∙ sym q.0) (p.1 ∙ sym q.1)
