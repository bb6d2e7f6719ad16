-- The words of the theorem that shown classes turn back: what is asked of a mapping and of a tree, each a test that can be computed, and
-- what then holds of every descriptor that comes out.
use Rattle.std.specs.Prelude.{Bool, true, false, not, List, [], ◌∷◌, ◌++◌, map, ℕ, eqb}
use Rattle.ground.specs.Choice.{both, either}
use Rattle.ground.specs.Look.{is_known}
use Rattle.text_places.specs.Places.{same}
use Rattle.text_places.specs.Spans.{part_of}
use Rattle.line.specs.declared.line.Line.{Line}
use Rattle.line.specs.declared.line.Line.TheVariants.{Blank, Comment, Class, Field, Method, Refused}
use Rattle.line.specs.Kinds.{line_of}
use Rattle.table_rows.specs.Classes.{Pair, shown, back}
use Rattle.tables.specs.Check.{all_of}
use Rattle.descriptor.specs.Pieces.{Part, byte, piece, parts_from, turn}
use Rattle.load_rule.specs.Classes.{classes_of}
use Rattle.tree_rule.specs.declared.Token.{Token}
use Rattle.tree_rule.specs.declared.Token.TheVariants.{Other, MemberName, Descriptor, SourceLine}
use Rattle.tree_rule.specs.Trees.{Tree, name_in}
use Rattle.tree_rule.specs.Files.{all_tokens}

-- Of a mapping, by its lines.

-- a text is one of many
unfoldable pub is_among : List ℕ → List (List ℕ) → Bool
is_among x [] = false
is_among x (y ∷ ys) = either (same y x) (is_among x ys)

-- no text stands twice
unfoldable pub each_once : List (List ℕ) → Bool
each_once [] = true
each_once (x ∷ xs) = both (not (is_among x xs)) (each_once xs)

abbrev pub class_raw : Pair → List ℕ
class_raw c = c.raw

abbrev pub class_display : Pair → List ℕ
class_display c = c.display

-- "no raw .. class descriptor on two class lines"
abbrev pub raws_once : List (List ℕ) → Bool
raws_once ls = each_once (map class_raw (classes_of ls))

-- "no display class descriptor on two class lines"
abbrev pub displays_once : List (List ℕ) → Bool
displays_once ls = each_once (map class_display (classes_of ls))

-- the display name of a class line, as it stands there
abbrev pub display_name_in : List ℕ → Line → List (List ℕ)
display_name_in l Blank = []
display_name_in l (Comment brace) = []
display_name_in l (Class display raw) = part_of l display ∷ []
display_name_in l (Field declared name raw) = []
display_name_in l (Method m raw) = []
display_name_in l (Refused r) = []

unfoldable pub display_names : List (List ℕ) → List (List ℕ)
display_names [] = []
display_names (l ∷ ls) = display_name_in l (line_of l) ++ display_names ls

abbrev pub no_semicolon : List ℕ → Bool
no_semicolon s = all_of (λ x. not (eqb x 0x3B)) s

-- "no `;` in a display class name"
abbrev pub names_closed : List (List ℕ) → Bool
names_closed ls = all_of no_semicolon (display_names ls)

-- Of a tree. `name` gives the text of a name by its number; only descriptors are asked.

-- "descriptors start with display equal to raw"
abbrev pub shows_raw : (ℕ → List ℕ) → Token → Bool
shows_raw name (Other a b) = true
shows_raw name (MemberName raw display) = true
shows_raw name (Descriptor raw display) = same (name display) (name raw)
shows_raw name (SourceLine raw display) = true

-- a class that is known as raw, or is no display in the mapping
abbrev pub unmistaken : List Pair → Part → Bool
unmistaken cs (byte b) = true
unmistaken cs (piece p) = either (is_known (shown cs p)) (not (is_known (back cs p)))

-- "and name no class that is unknown as raw yet a display in the mapping"
abbrev pub names_unmistaken : List Pair → (ℕ → List ℕ) → Token → Bool
names_unmistaken cs name (Other a b) = true
names_unmistaken cs name (MemberName raw display) = true
names_unmistaken cs name (Descriptor raw display) = all_of (unmistaken cs) (parts_from [] (name raw))
names_unmistaken cs name (SourceLine raw display) = true

abbrev pub of_tokens : ((ℕ → List ℕ) → Token → Bool) → Tree → Bool
of_tokens test t = all_of (test (name_in t)) (all_tokens t.nodes)

-- What holds of the tree that comes out: "turning each shown class back gives the raw descriptor".
abbrev pub turns_back : List Pair → (ℕ → List ℕ) → Token → Bool
turns_back cs name (Other a b) = true
turns_back cs name (MemberName raw display) = true
turns_back cs name (Descriptor raw display) = same (turn (back cs) (name display)) (name raw)
turns_back cs name (SourceLine raw display) = true
