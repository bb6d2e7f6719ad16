-- Document 01 "Numbers a caller can get back": "Raw and display class lookups answer found with place and length, unknown, or 14."
use Rattle.std.specs.Prelude.{List, [], ◌∷◌, ℕ, get_or, take, Option, Some, None, Result, Ok, Err}
use Rattle.ground.specs.Choice.{pick}
use Rattle.ground.specs.Look.{Look, known, unknown, look_or}
use Rattle.table_rows.specs.declared.rows.Text.{Text}
use Rattle.table_rows.specs.Classes.{shown}
use Rattle.table_rows.specs.Rows.{unpack_class}
use Rattle.table_rows.specs.Tables.{Tables}
use Rattle.tables.specs.declared.check.Used.{Used}
use Rattle.tables.specs.declared.check.Malformed.{Malformed}
use Rattle.tables.specs.Back.{text_in}
use Rattle.tables.specs.Check.{well_formed, malformed}
use Rattle.tables.specs.Search.{last_raw, last_display}
use Rattle.name_rule.specs.Mappings.{mapping_of}

-- the class rows that are used
abbrev pub used_rows : Tables → Used → List (List ℕ)
used_rows t used = take used.classes t.classes

-- the place of the display descriptor of a row that is found, and of the raw one
abbrev pub display_at : List (List ℕ) → Option ℕ → Option Text
display_at rows (Some i) = Some (unpack_class (get_or rows i [])).display
display_at rows None = None

abbrev pub raw_at : List (List ℕ) → Option ℕ → Option Text
raw_at rows (Some i) = Some (unpack_class (get_or rows i [])).raw
raw_at rows None = None

-- an answer, or 14 where the tables are malformed
abbrev pub unless14 : Tables → Used → Option Text → Result (Option Text) Malformed
unless14 t used answer = pick (well_formed t.classes t.members t.pool used) (Ok answer) (Err malformed)

-- "The last class row with a given raw (or display) descriptor answers."
abbrev pub display_of_class : Tables → Used → List ℕ → Result (Option Text) Malformed
display_of_class t used raw = unless14 t used (display_at (used_rows t used) (last_raw (used_rows t used) t.pool raw))

abbrev pub raw_of_class : Tables → Used → List ℕ → Result (Option Text) Malformed
raw_of_class t used display = unless14 t used (raw_at (used_rows t used) (last_display (used_rows t used) t.pool display))

-- "`mapped_class_name` gives back either the display text out of the pool or the caller's own name; with malformed tables, the caller's
-- own name."
abbrev pub mapped_class : Tables → Used → List ℕ → List ℕ
mapped_class t used raw =
    pick (well_formed t.classes t.members t.pool used) (look_or raw (shown (mapping_of t used).classes raw)) raw

-- the text that an answer says, out of the pool
abbrev pub text_answered : List ℕ → Result (Option Text) Malformed → Look
text_answered pool (Ok (Some t)) = known (text_in pool t)
text_answered pool (Ok None) = unknown
text_answered pool (Err _) = unknown

-- the answer as document 01 numbers it: 0 or 14, then 1 where a class is found, its place and its length
abbrev pub class_name_numbers : Result (Option Text) Malformed → List ℕ
class_name_numbers (Ok (Some t)) = 0 ∷ 1 ∷ t.place ∷ t.length ∷ []
class_name_numbers (Ok None) = 0 ∷ 0 ∷ 0 ∷ 0 ∷ []
class_name_numbers (Err _) = 14 ∷ 0 ∷ 0 ∷ 0 ∷ []

abbrev pub display_numbers : Tables → Used → List ℕ → List ℕ
display_numbers t used raw = class_name_numbers (display_of_class t used raw)

abbrev pub raw_numbers : Tables → Used → List ℕ → List ℕ
raw_numbers t used display = class_name_numbers (raw_of_class t used display)
