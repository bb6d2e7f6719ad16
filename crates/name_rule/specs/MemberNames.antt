-- Document 01 "Rows and names": the names of fields and methods, and lines.
use Rattle.std.specs.Prelude.{Bool, true, false, List, [], ◌∷◌, ℕ, zero, suc, Option, Some, None}
use Rattle.ground.specs.Choice.{pick, both}
use Rattle.ground.specs.Look.{Look, known, unknown, or_look}
use Rattle.text_places.specs.Places.{same}
use Rattle.table_rows.specs.Classes.{Pair, shown}
use Rattle.load_rule.specs.Members.{MemberKind, field, method, Entry}
use Rattle.name_lines.specs.declared.lines.RawLine.{RawLine}
use Rattle.name_lines.specs.LineNames.{line_name}
use Rattle.name_rule.specs.Mappings.{Mapping}
use Rattle.name_lines.specs.declared.lines.DisplayLine.{DisplayLine}

-- what is looked for: the raw descriptor of its class, its raw name and its raw descriptor
pub record Key : Type 0 where
  pub owner : List ℕ
  pub name : List ℕ
  pub descriptor : List ℕ

abbrev pub key : List ℕ → List ℕ → List ℕ → Key
key o n d = record { owner = o; name = n; descriptor = d }

-- the raw descriptor of a class row
unfoldable pub raw_of_row : List Pair → ℕ → Look
raw_of_row [] i = unknown
raw_of_row (c ∷ cs) zero = known c.raw
raw_of_row (c ∷ cs) (suc i) = raw_of_row cs i

-- a text that is known is that one
abbrev pub is_text : Look → List ℕ → Bool
is_text (known s) p = same s p
is_text unknown p = false

-- "Member rows of class lines with the same raw descriptor belong together and match by raw name and raw descriptor"
abbrev pub matches : List Pair → Key → Entry → Bool
matches cs k e =
    both (is_text (raw_of_row cs e.class) k.owner)
    (both (same e.raw_name k.name) (same e.descriptor k.descriptor))

abbrev pub is_field_kind : MemberKind → Bool
is_field_kind field = true
is_field_kind (method o g) = false

abbrev pub is_method_kind : MemberKind → Bool
is_method_kind field = false
is_method_kind (method o g) = true

-- the display name of the last member of which `p` holds
unfoldable pub last_named : (Entry → Bool) → List Entry → Look
last_named p [] = unknown
last_named p (e ∷ es) = or_look (last_named p es) (pick (p e) (known e.name) unknown)

-- "the last matching field answers"
abbrev pub field_matches : List Pair → Key → Entry → Bool
field_matches cs k e = both (is_field_kind e.kind) (matches cs k e)

abbrev pub field_name : Mapping → Key → Look
field_name m k = last_named (field_matches m.classes k) m.members

-- a method "whose display owner is the class's display (of the last class row with that raw)", which is the text `display`
abbrev pub owned_by : Look → MemberKind → Bool
owned_by display field = false
owned_by display (method o g) = is_text display o

abbrev pub owner_matches : List Pair → Key → Entry → Bool
owner_matches cs k e = both (owned_by (shown cs k.owner) e.kind) (matches cs k e)

abbrev pub method_matches : List Pair → Key → Entry → Bool
method_matches cs k e = both (is_method_kind e.kind) (matches cs k e)

-- "A method's name comes from the last match whose display owner is the class's display .., else the last match."
abbrev pub method_name : Mapping → Key → Look
method_name m k = or_look (last_named (owner_matches m.classes k) m.members) (last_named (method_matches m.classes k) m.members)

-- "A line uses the last such owner match whose raw range holds it."
abbrev pub or_line : Option DisplayLine → Option DisplayLine → Option DisplayLine
or_line (Some n) b = Some n
or_line None b = b

abbrev pub line_of_kind : MemberKind → RawLine → Option DisplayLine
line_of_kind field n = None
line_of_kind (method o g) n = line_name g n

unfoldable pub last_translated : (Entry → Bool) → RawLine → List Entry → Option DisplayLine
last_translated p n [] = None
last_translated p n (e ∷ es) = or_line (last_translated p n es) (pick (p e) (line_of_kind e.kind n) None)

abbrev pub line_of_method : Mapping → Key → RawLine → Option DisplayLine
line_of_method m k n = last_translated (owner_matches m.classes k) n m.members
