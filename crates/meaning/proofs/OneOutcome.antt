-- "Each entry point's promise settles the answer and every lent row, byte and output, refused calls too": two outcomes that meet the
-- contract of an entry point are the same. What stands behind `λ` is the contract. C functions: capi/proofs/Once; the loading program:
-- load_mapping/proofs/Once. Assumes nothing.
use Rattle.std.specs.Prelude.{Option, Result}
use mathlib.Core.Path.{◌≡◌, sym, ◌∙◌}
use mathlib.Core.List.{List}
use Prim.Native.Nat.{ℕ}
use Rattle.ground.specs.Outcome.{OneOutcome}
use Rattle.ground.proofs.Outcomes.{one_value, one_value_more, same_pair}
use Rattle.table_rows.specs.declared.rows.Text.{Text}
use Rattle.table_rows.specs.Tables.{Tables}
use Rattle.tables.specs.declared.check.Used.{Used}
use Rattle.tables.specs.declared.check.Malformed.{Malformed}
use Rattle.load_rule.specs.Loading.{lines_parse, lines_str}
use Rattle.load.specs.Loads.{Loads, Outcome}
use Rattle.load.proofs.Once.{loads_once}
use Rattle.name_lines.specs.declared.lines.RawLine.{RawLine}
use Rattle.name_rule.specs.MemberNames.{Key}
use Rattle.name_classes.specs.ClassNames.{display_of_class, raw_of_class, mapped_class, class_name_numbers, display_numbers, raw_numbers}
use Rattle.name_members.specs.declared.names.MemberName.{MemberName}
use Rattle.name_members.specs.declared.names.MemberLine.{MemberLine}
use Rattle.name_members.specs.MemberAnswers.{
  field_answer,
  method_answer,
  line_answer,
  name_numbers,
  line_numbers,
  field_name_numbers,
  method_name_numbers,
  line_numbers_of,
}
use Rattle.tree_rule.specs.Checks.{well_formed_file}
use Rattle.meaning.specs.Outcomes.{Applies}
use Rattle.apply_rule.specs.declared.ApplyError.{ApplyError}

-- loading
pub parse_once : (s : List ℕ) (before : Tables) → OneOutcome (λ (o : Outcome). Loads o.answer s (lines_parse s) before o.after)
parse_once s before = loads_once s (lines_parse s) before

pub parse_str_once : (s : List ℕ) (before : Tables) → OneOutcome (λ (o : Outcome). Loads o.answer s (lines_str s) before o.after)
parse_str_once s before = loads_once s (lines_str s) before

-- looking up classes
module _ (t : Tables) (used : Used) (name : List ℕ) where
  pub display_class_name_once : OneOutcome (λ r. (r ≡ display_of_class t used name) × (class_name_numbers r ≡ display_numbers t used name))
  display_class_name_once =
      one_value_more (display_of_class t used name) (λ (r : Result (Option Text) Malformed). class_name_numbers r ≡ display_numbers t used name)

  pub raw_class_name_once : OneOutcome (λ r. (r ≡ raw_of_class t used name) × (class_name_numbers r ≡ raw_numbers t used name))
  raw_class_name_once = one_value_more (raw_of_class t used name) (λ (r : Result (Option Text) Malformed). class_name_numbers r ≡ raw_numbers t used name)

  pub mapped_class_name_once : OneOutcome (λ r. r ≡ mapped_class t used name)
  mapped_class_name_once = one_value (mapped_class t used name)

-- looking up members
module _ (t : Tables) (used : Used) (k : Key) where
  pub display_field_name_once : OneOutcome (λ r. (r ≡ field_answer t used k) × (name_numbers r ≡ field_name_numbers t used k))
  display_field_name_once = one_value_more (field_answer t used k) (λ (r : Result (Option MemberName) Malformed). name_numbers r ≡ field_name_numbers t used k)

  pub display_method_name_once : OneOutcome (λ r. (r ≡ method_answer t used k) × (name_numbers r ≡ method_name_numbers t used k))
  display_method_name_once = one_value_more (method_answer t used k) (λ (r : Result (Option MemberName) Malformed). name_numbers r ≡ method_name_numbers t used k)

  pub display_line_once : (n : RawLine) → OneOutcome (λ r. (r ≡ line_answer t used k n) × (line_numbers r ≡ line_numbers_of t used k n))
  display_line_once n = one_value_more (line_answer t used k n) (λ (r : Result (Option MemberLine) Malformed). line_numbers r ≡ line_numbers_of t used k n)

-- tree files
pub well_formed_tree_once : (f : List ℕ) → OneOutcome (λ r. r ≡ well_formed_file f)
well_formed_tree_once f = one_value (well_formed_file f)

-- applying: the answer and the output
pub apply_once : (t : Tables) (used : Used) (class file before : List ℕ) →
    OneOutcome (λ (o : Result ℕ ApplyError × List ℕ). Applies o.0 t used class file before o.1)
apply_once t used class file before a b p q = same_pair (p.answer ∙ sym q.answer) (p.output ∙ sym q.output)
