-- Document 01 "Rows and names": classes.
use Rattle.std.specs.Prelude.{List, [], ◌∷◌, ◌++◌, map, ℕ, ◌+◌, length}
use Rattle.line.specs.declared.line.Line.{Line}
use Rattle.line.specs.declared.line.Line.TheVariants.{Blank, Comment, Class, Field, Method, Refused}
use Rattle.text_places.specs.Spans.{part_of}
use Rattle.line.specs.Kinds.{line_of}
use Rattle.table_pool.specs.Names.{class_descriptor}
use Rattle.ground.specs.Join.{join}
use Rattle.table_rows.specs.Classes.{Pair, pair}
use Rattle.table_rows.specs.Rows.{text, pack_class}
use Rattle.load_rule.specs.Laid.{rows_from}

-- the class of a line, if it is a class line
abbrev pub class_in : List ℕ → Line → List Pair
class_in l Blank = []
class_in l (Comment brace) = []
class_in l (Class display raw) = pair (class_descriptor (part_of l raw)) (class_descriptor (part_of l display)) ∷ []
class_in l (Field declared name raw) = []
class_in l (Method m raw) = []
class_in l (Refused r) = []

-- "One row per line, in text order."
unfoldable pub classes_of : List (List ℕ) → List Pair
classes_of [] = []
classes_of (l ∷ ls) = class_in l (line_of l) ++ classes_of ls

-- "The pool holds, unshared, each class row's raw then display"
abbrev pub class_text : Pair → List ℕ
class_text c = c.raw ++ c.display

abbrev pub class_pool : List Pair → List ℕ
class_pool cs = join (map class_text cs)

-- the row of a class whose texts stand at the place `p`
abbrev pub class_row : ℕ → Pair → List ℕ
class_row p c = pack_class (record { raw = text p (length c.raw); display = text (p + length c.raw) (length c.display) })

abbrev pub class_rows : ℕ → List Pair → List (List ℕ)
class_rows p cs = rows_from class_row class_text p cs
