-- Document 01 "Rows and names": what is answered for a member, and 14 where the tables are malformed.
use Rattle.std.specs.Prelude.{List, [], ◌∷◌, ℕ, get_or, take, drop, Option, Some, None, Result, Ok, Err}
use Rattle.ground.specs.Choice.{pick}
use Rattle.ground.specs.Look.{Look, known, unknown}
use Rattle.table_rows.specs.Classes.{Pair}
use Rattle.table_rows.specs.Rows.{unpack_member}
use Rattle.table_rows.specs.Tables.{Tables}
use Rattle.tables.specs.declared.check.Malformed.{Malformed}
use Rattle.tables.specs.declared.check.Used.{Used}
use Rattle.tables.specs.Back.{read_back}
use Rattle.tables.specs.Check.{well_formed, malformed}
use Rattle.name_lines.specs.declared.lines.RawLine.{RawLine}
use Rattle.name_lines.specs.LineNames.{line_name}
use Rattle.name_rule.specs.MemberNames.{Key}
use Rattle.name_rule.specs.MemberRows.{field_row, method_row, line_row}
use Rattle.name_members.specs.declared.rows.Asked.{Asked}
use Rattle.name_members.specs.declared.rows.Asked.TheVariants as asked
use Rattle.name_members.specs.declared.names.MemberName.{MemberName}
use Rattle.name_members.specs.declared.names.MemberLine.{MemberLine}
use Rattle.name_lines.specs.declared.lines.DisplayLine.{DisplayLine}

-- the row that answers what is asked
abbrev pub row_asked : Asked → List Pair → Key → List (List ℕ) → List ℕ → Option ℕ
row_asked asked.Field cs k rows pool = field_row cs k rows pool
row_asked asked.Method cs k rows pool = method_row cs k rows pool
row_asked (asked.Line n) cs k rows pool = line_row cs k n rows pool

-- of the rows that are used; 14 where the tables are malformed
abbrev pub answering : Asked → Tables → Used → Key → Result (Option ℕ) Malformed
answering a t used k =
    pick (well_formed t.classes t.members t.pool used)
    (Ok (row_asked a (read_back (take used.classes t.classes) t.pool) k (take used.members t.members) t.pool))
    (Err malformed)

-- what a row says: its display name
abbrev pub name_of_row : ℕ → List ℕ → MemberName
name_of_row i r = record { row = i; place = (unpack_member r).name.place; length = (unpack_member r).name.length }

abbrev pub name_answer : List (List ℕ) → Result (Option ℕ) Malformed → Result (Option MemberName) Malformed
name_answer rows (Ok (Some i)) = Ok (Some (name_of_row i (get_or rows i [])))
name_answer rows (Ok None) = Ok None
name_answer rows (Err _) = Err malformed

-- and its display line
abbrev pub line_shown_by : ℕ → Option DisplayLine → Option MemberLine
line_shown_by i (Some n) = Some (record { row = i; line = n })
line_shown_by i None = None

abbrev pub line_of_row : ℕ → List ℕ → RawLine → Option MemberLine
line_of_row i r n = line_shown_by i (line_name (unpack_member r).ranges n)

abbrev pub line_of_answer : List (List ℕ) → RawLine → Result (Option ℕ) Malformed → Result (Option MemberLine) Malformed
line_of_answer rows n (Ok (Some i)) = Ok (line_of_row i (get_or rows i []) n)
line_of_answer rows n (Ok None) = Ok None
line_of_answer rows n (Err _) = Err malformed

abbrev pub field_answer : Tables → Used → Key → Result (Option MemberName) Malformed
field_answer t used k = name_answer t.members (answering asked.Field t used k)

abbrev pub method_answer : Tables → Used → Key → Result (Option MemberName) Malformed
method_answer t used k = name_answer t.members (answering asked.Method t used k)

abbrev pub line_answer : Tables → Used → Key → RawLine → Result (Option MemberLine) Malformed
line_answer t used k n = line_of_answer t.members n (answering (asked.Line n) t used k)

-- the text that an answer says, out of the pool, and the line
abbrev pub name_told : List ℕ → Result (Option MemberName) Malformed → Look
name_told pool (Ok (Some m)) = known (take m.length (drop m.place pool))
name_told pool (Ok None) = unknown
name_told pool (Err _) = unknown

abbrev pub line_told : Result (Option MemberLine) Malformed → Option DisplayLine
line_told (Ok (Some m)) = Some m.line
line_told (Ok None) = None
line_told (Err _) = None

-- the answers as document 01 numbers them: 0 or 14, then 1 where the member is found, the row that answers, and the place and the length of
-- its name, or the display line
abbrev pub name_numbers : Result (Option MemberName) Malformed → List ℕ
name_numbers (Ok (Some m)) = 0 ∷ 1 ∷ m.row ∷ m.place ∷ m.length ∷ []
name_numbers (Ok None) = 0 ∷ 0 ∷ 0 ∷ 0 ∷ 0 ∷ []
name_numbers (Err _) = 14 ∷ 0 ∷ 0 ∷ 0 ∷ 0 ∷ []

abbrev pub line_numbers : Result (Option MemberLine) Malformed → List ℕ
line_numbers (Ok (Some m)) = 0 ∷ 1 ∷ m.row ∷ m.line.0 ∷ []
line_numbers (Ok None) = 0 ∷ 0 ∷ 0 ∷ 0 ∷ []
line_numbers (Err _) = 14 ∷ 0 ∷ 0 ∷ 0 ∷ []

abbrev pub field_name_numbers : Tables → Used → Key → List ℕ
field_name_numbers t used k = name_numbers (field_answer t used k)

abbrev pub method_name_numbers : Tables → Used → Key → List ℕ
method_name_numbers t used k = name_numbers (method_answer t used k)

abbrev pub line_numbers_of : Tables → Used → Key → RawLine → List ℕ
line_numbers_of t used k n = line_numbers (line_answer t used k n)
