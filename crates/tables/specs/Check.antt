-- Document 01, refusal 14, "tables malformed". "Rows and names": "Malformed: a count above the rows or pool lent, a text reaching past the
-- used pool, a class row, kind or flag out of range, or a named text not UTF-8."
use Rattle.std.specs.Prelude.{Bool, true, List, [], ◌∷◌, ℕ, ◌+◌, min, leb, ltb, length, get_or, take}
use Rattle.ground.specs.Choice.{both}
use Rattle.text_utf8.specs.Utf8.{is_utf8}
use Rattle.table_rows.specs.declared.rows.Text.{Text}
use Rattle.table_rows.specs.declared.rows.Member.{Member}
use Rattle.tables.specs.declared.check.Malformed.{Malformed}
use Rattle.tables.specs.declared.check.Used.{Used}
use Rattle.table_rows.specs.Rows.{unpack_class, unpack_member, flag_of, most_classes, most_members, most_pool}
use Rattle.tables.specs.Back.{text_in}

-- refusal 14 itself
abbrev pub malformed : Malformed
malformed = record {}

-- what is used, as C lends it: "class rows, member rows, pool bytes"
abbrev pub used_by : List ℕ → Used
used_by n = record { classes = get_or n 0 0; members = get_or n 1 0; pool = get_or n 2 0 }

-- a test holds of every element
unfoldable pub all_of : {A : Type 0} → (A → Bool) → List A → Bool
all_of p [] = true
all_of p (x ∷ l) = both (p x) (all_of p l)

-- "a count above the rows or pool lent", where "a longer lent slice counts as" the most there may be; the arguments are the lengths of
-- what is lent
abbrev pub counts_fine : ℕ → ℕ → ℕ → Used → Bool
counts_fine classes members pool used =
    both (leb used.classes (min classes most_classes))
    (both (leb used.members (min members most_members)) (leb used.pool (min pool most_pool)))

-- "a text reaching past the used pool", and "a named text not UTF-8"
abbrev pub text_fine : List ℕ → Used → Text → Bool
text_fine pool used t = both (leb (t.place + t.length) used.pool) (is_utf8 (text_in pool t))

abbrev pub class_fine : List ℕ → Used → List ℕ → Bool
class_fine pool used row = both (text_fine pool used (unpack_class row).raw) (text_fine pool used (unpack_class row).display)

-- "a class row, kind or flag out of range": kind (0 field, 1 method), range flag (0 none, 1 display only, 2 both)
abbrev pub numbers_fine : Used → List ℕ → Bool
numbers_fine used row = both (ltb (unpack_member row).class used.classes) (both (leb (unpack_member row).kind 1) (leb (flag_of row) 2))

abbrev pub texts_fine : List ℕ → Used → Member → Bool
texts_fine pool used m =
    both (text_fine pool used m.raw_name) (both (text_fine pool used m.descriptor)
    (both (text_fine pool used m.name) (text_fine pool used m.owner)))

abbrev pub member_fine : List ℕ → Used → List ℕ → Bool
member_fine pool used row = both (numbers_fine used row) (texts_fine pool used (unpack_member row))

-- tables that are not malformed: only the rows that are used are asked
abbrev pub well_formed : List (List ℕ) → List (List ℕ) → List ℕ → Used → Bool
well_formed classes members pool used =
    both (counts_fine (length classes) (length members) (length pool) used)
    (both (all_of (class_fine pool used) (take used.classes classes)) (all_of (member_fine pool used) (take used.members members)))
