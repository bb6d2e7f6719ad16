-- Document 01 "Numbers a caller can get back", "Rows and names", "Fates of lines": what a load answers, and the rows and the pool that it
-- leaves.
use Rattle.std.specs.Prelude.{Bool, true, false, List, [], ◌∷◌, ◌++◌, ℕ, ◌+◌, ◌-◌, min, eqb, ltb, length, drop, replicate, Result, Ok, Err}
use Rattle.ground.specs.Choice.{pick}
use Rattle.text_places.specs.Lines.{lines}
use Rattle.text_utf8.specs.Utf8.{check_of}
use Rattle.text_white.specs.Trim.{after_marks}
use Rattle.table_rows.specs.Tables.{Tables}
use Rattle.table_rows.specs.Rows.{zero_class, zero_member, most_classes, most_members, most_pool}
use Rattle.load_rule.specs.declared.Fates.{Fates}
use Rattle.load_rule.specs.Fates.{scan_of, fault_at, loaded_with}
use Rattle.load_rule.specs.Classes.{classes_of, class_pool, class_rows}
use Rattle.load_rule.specs.Members.{under, Entry, entries_from, entry_pool, entry_rows}
use Rattle.text_utf8.specs.declared.check.Broken.{Broken}
use Rattle.load_rule.specs.declared.Fault.{Fault}
use Rattle.load_rule.specs.declared.Loaded.{Loaded}
use Rattle.load_rule.specs.declared.LoadError.{LoadError}
use Rattle.load_rule.specs.declared.LoadError.TheVariants.{Faulty, NotUtf8, TooLong, NoClasses, FewClassRows, FewMemberRows, ShortPool}

-- how much is lent: class rows, member rows, pool bytes
pub record Lent : Type 0 where
  pub classes : ℕ
  pub members : ℕ
  pub pool : ℕ

abbrev pub lent : ℕ → ℕ → ℕ → Lent
lent c m p = record { classes = c; members = m; pool = p }

abbrev pub lent_of : Tables → Lent
lent_of t = lent (length t.classes) (length t.members) (length t.pool)

-- "Class rows number at most 4,096, member rows 32,768, pool bytes 4,194,304; a longer lent slice counts as that."
abbrev pub counting : Lent → Lent
counting n = record { classes = min n.classes most_classes; members = min n.members most_members; pool = min n.pool most_pool }

-- the members of a mapping, by its lines
abbrev pub entries_of : List (List ℕ) → List Entry
entries_of ls = entries_from (classes_of ls) (under 0 []) ls

-- "The pool holds, unshared, each class row's raw then display, then each member's texts in row order."
abbrev pub pool_of : List (List ℕ) → List ℕ
pool_of ls = class_pool (classes_of ls) ++ entry_pool (entries_of ls)

abbrev pub class_rows_of : List (List ℕ) → List (List ℕ)
class_rows_of ls = class_rows 0 (classes_of ls)

-- the texts of members stand after those of classes
abbrev pub member_rows_of : List (List ℕ) → List (List ℕ)
member_rows_of ls = entry_rows (length (class_pool (classes_of ls))) (entries_of ls)

-- "then 8, 9, 10, 11"; `n` is what counts of the lent rows and pool
abbrev pub fitting : Fates → List (List ℕ) → Lent → Result Loaded LoadError
fitting f ls n =
    pick (eqb f.class 0) (Err NoClasses)
    (pick (ltb n.classes f.class) (Err FewClassRows)
    (pick (ltb n.members (f.field + f.method)) (Err FewMemberRows)
    (pick (ltb n.pool (length (pool_of ls))) (Err ShortPool) (Ok (loaded_with f (length (pool_of ls)))))))

-- "then 3 to 7 for the first faulty line"
abbrev pub scanned : Result Fates Fault → List (List ℕ) → Lent → Result Loaded LoadError
scanned (Err r) ls n = Err (Faulty (fault_at r.number r.line))
scanned (Ok f) ls n = fitting f ls n

abbrev pub lines_load : List (List ℕ) → Lent → Result Loaded LoadError
lines_load ls n = scanned (scan_of ls) ls n

-- "1, 2": the UTF-8 check is of the text as given
abbrev pub checked : Result Unit Broken → List (List ℕ) → Lent → Result Loaded LoadError
checked (Err r) ls n = Err (NotUtf8 r.at r.length)
checked (Ok _) ls n = lines_load ls n

-- "1 mapping text over 1,048,576 bytes"
abbrev pub most_text : ℕ
most_text = 1048576

-- the answer for a text `s` whose lines are `ls`
abbrev pub answer_of : List ℕ → List (List ℕ) → Lent → Result Loaded LoadError
answer_of s ls n = pick (ltb most_text (length s)) (Err TooLong) (checked (check_of s) ls (counting n))

-- "`parse_str` drops none"
abbrev pub lines_str : List ℕ → List (List ℕ)
lines_str s = lines s

-- "`parse` drops every leading U+FEFF"
abbrev pub lines_parse : List ℕ → List (List ℕ)
lines_parse s = lines (drop (after_marks s) s)

abbrev pub is_loaded : Result Loaded LoadError → Bool
is_loaded (Ok r) = true
is_loaded (Err TooLong) = false
is_loaded (Err (NotUtf8 valid len)) = false
is_loaded (Err (Faulty r)) = false
is_loaded (Err NoClasses) = false
is_loaded (Err FewClassRows) = false
is_loaded (Err FewMemberRows) = false
is_loaded (Err ShortPool) = false

-- "A refused load zeroes all lent rows and pool bytes ..; a success zeroes what it does not use": what is left in `n` that were lent
abbrev pub leaves : {A : Type 0} → A → ℕ → Result Loaded LoadError → List A → List A
leaves zero n answer used = pick (is_loaded answer) (used ++ replicate (n - length used) zero) (replicate n zero)

abbrev pub classes_left : List ℕ → List (List ℕ) → Lent → List (List ℕ)
classes_left s ls n = leaves zero_class n.classes (answer_of s ls n) (class_rows_of ls)

abbrev pub members_left : List ℕ → List (List ℕ) → Lent → List (List ℕ)
members_left s ls n = leaves zero_member n.members (answer_of s ls n) (member_rows_of ls)

abbrev pub pool_left : List ℕ → List (List ℕ) → Lent → List ℕ
pool_left s ls n = leaves 0 n.pool (answer_of s ls n) (pool_of ls)

-- Document 01's number and values for each answer: number, place, length, lines, blank, applied, idle, class, field, method, short, names.
abbrev pub refusal : ℕ → ℕ → ℕ → List ℕ
refusal number place len = number ∷ place ∷ len ∷ replicate 9 0

abbrev pub load_numbers : Result Loaded LoadError → List ℕ
load_numbers (Ok r) =
    0 ∷ 0 ∷ 0 ∷ r.fates.lines ∷ r.fates.blank ∷ r.fates.applied ∷ r.fates.idle ∷ r.fates.class ∷ r.fates.field ∷ r.fates.method ∷ r.fates.short ∷ r.names ∷ []
load_numbers (Err TooLong) = refusal 1 0 0
load_numbers (Err (NotUtf8 valid len)) = refusal 2 valid len
load_numbers (Err (Faulty r)) = refusal r.number r.line 0
load_numbers (Err NoClasses) = refusal 8 0 0
load_numbers (Err FewClassRows) = refusal 9 0 0
load_numbers (Err FewMemberRows) = refusal 10 0 0
load_numbers (Err ShortPool) = refusal 11 0 0

-- and what a text is answered in these
abbrev pub numbers_given : List ℕ → List (List ℕ) → Lent → List ℕ
numbers_given s ls n = load_numbers (answer_of s ls n)
