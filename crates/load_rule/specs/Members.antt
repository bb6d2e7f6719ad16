-- Document 01 "Rows and names": members.
use Rattle.std.specs.Prelude.{true, false, List, [], ◌∷◌, ◌++◌, map, ℕ, ◌+◌, ◌-◌, length, Option, Some, None}
use Rattle.line_parts.specs.declared.signature.Qualified.{Qualified}
use Rattle.line_parts.specs.declared.signature.Qualified.TheVariants.{Owned, Plain}
use Rattle.line.specs.declared.line.Line.{Line}
use Rattle.line.specs.declared.line.Line.TheVariants.{Blank, Comment, Class, Field, Method, Refused}
use Rattle.text_places.specs.Spans.{part_of}
use Rattle.line_parts.specs.Arguments.{arguments_of}
use Rattle.line.specs.Kinds.{line_of}
use Rattle.table_pool.specs.Names.{class_descriptor}
use Rattle.descriptor.specs.Signatures.{raw_signature}
use Rattle.ground.specs.Look.{Look, known, unknown}
use Rattle.ground.specs.Join.{join}
use Rattle.table_rows.specs.Classes.{Pair}
use Rattle.table_rows.specs.declared.rows.Text.{Text}
use Rattle.table_rows.specs.declared.rows.Ranges.{Ranges}
use Rattle.table_rows.specs.declared.rows.Ranges.TheVariants as ranges
use Rattle.table_rows.specs.Rows.{text, pack_member}
use Rattle.descriptor.specs.Raw.{raw_type_of}
use Rattle.load_rule.specs.Comments.{residual_in}
use Rattle.load_rule.specs.Laid.{rows_from}
use Rattle.line_parts.specs.declared.method.LineRange.{LineRange}

-- the raw descriptor of a field: that of its residual signature, else that of its display type
abbrev pub field_descriptor : List Pair → Look → List ℕ → List ℕ
field_descriptor cs (known s) declared = raw_signature false s
field_descriptor cs unknown declared = raw_type_of cs declared

-- of a method: `(`, its arguments, `)`, its return type
abbrev pub argument_types : List Pair → List (List ℕ) → List ℕ
argument_types cs arguments = join (map (raw_type_of cs) arguments)

abbrev pub types_descriptor : List Pair → List (List ℕ) → List ℕ → List ℕ
types_descriptor cs arguments returned = 0x28 ∷ (argument_types cs arguments ++ (0x29 ∷ raw_type_of cs returned))

abbrev pub method_descriptor : List Pair → Look → List (List ℕ) → List ℕ → List ℕ
method_descriptor cs (known s) arguments returned = raw_signature true s
method_descriptor cs unknown arguments returned = types_descriptor cs arguments returned

-- "range flag (0 none, 1 display only, 2 both)": the display range is there wherever the raw one is
abbrev pub ranges_of : Option LineRange → Option LineRange → Ranges
ranges_of None None = ranges.None
ranges_of None (Some r) = ranges.Display r.start r.«end»
ranges_of (Some r) None = ranges.Both r.start r.«end» r.start r.«end»
ranges_of (Some r) (Some x) = ranges.Both r.start r.«end» x.start x.«end»

-- what only a method has: its display owner and its ranges
pub data MemberKind : Type 0 where
  field : MemberKind
  method : List ℕ → Ranges → MemberKind

-- a member by its class row, its texts, and what it is
pub record Entry : Type 0 where
  pub class : ℕ
  pub raw_name : List ℕ
  pub descriptor : List ℕ
  pub name : List ℕ
  pub kind : MemberKind

-- the class line that a line stands under: the last of `count`, and the display name of its class
pub record Under : Type 0 where
  pub count : ℕ
  pub own : List ℕ

abbrev pub under : ℕ → List ℕ → Under
under n d = record { count = n; own = d }

abbrev pub under_after : Under → List ℕ → Line → Under
under_after u l Blank = u
under_after u l (Comment brace) = u
under_after u l (Class display raw) = under (u.count + 1) (part_of l display)
under_after u l (Field declared name raw) = u
under_after u l (Method m raw) = u
under_after u l (Refused r) = u

abbrev pub name_text : List ℕ → Qualified → List ℕ
name_text l (Owned owner name) = part_of l name
name_text l (Plain name) = part_of l name

-- "no dot, the owner is this class line's display"
abbrev pub owner_of : List ℕ → List ℕ → Qualified → List ℕ
owner_of own l (Owned owner name) = class_descriptor (part_of l owner)
owner_of own l (Plain name) = class_descriptor own

-- the member of a line, if it is a member line; `signature` is the residual one, if there is one. Rows count from 0, so that of its class
-- is one less than the class lines before it.
abbrev pub entry_in : List Pair → Under → Look → List ℕ → Line → List Entry
entry_in cs u signature l Blank = []
entry_in cs u signature l (Comment brace) = []
entry_in cs u signature l (Class display raw) = []
entry_in cs u signature l (Field declared name raw) =
    record {
      class = u.count - 1;
      raw_name = part_of l raw;
      descriptor = field_descriptor cs signature (part_of l declared);
      name = part_of l name;
      kind = field;
    }
    ∷ []
entry_in cs u signature l (Method m raw) =
    record {
      class = u.count - 1;
      raw_name = part_of l raw;
      descriptor = method_descriptor cs signature (arguments_of (part_of l m.arguments)) (part_of l m.returned);
      name = name_text l m.named;
      kind = method (owner_of u.own l m.named) (ranges_of m.raw m.display);
    }
    ∷ []
entry_in cs u signature l (Refused r) = []

-- "One row per line, in text order."
unfoldable pub entries_from : List Pair → Under → List (List ℕ) → List Entry
entries_from cs u [] = []
entries_from cs u (l ∷ ls) = entry_in cs u (residual_in ls) l (line_of l) ++ entries_from cs (under_after u l (line_of l)) ls

-- "then each member's texts in row order": display name and, of a method, display owner
abbrev pub display_text : List ℕ → MemberKind → List ℕ
display_text n field = n
display_text n (method o g) = n ++ o

abbrev pub entry_text : Entry → List ℕ
entry_text e = e.raw_name ++ (e.descriptor ++ display_text e.name e.kind)

abbrev pub entry_pool : List Entry → List ℕ
entry_pool es = join (map entry_text es)

-- "kind (0 field, 1 method)"
abbrev pub kind_number : MemberKind → ℕ
kind_number field = 0
kind_number (method o g) = 1

-- "display owner (0, 0 for a field)", which stands at the place `p`
abbrev pub owner_at : ℕ → MemberKind → Text
owner_at p field = text 0 0
owner_at p (method o g) = text p (length o)

abbrev pub kind_ranges : MemberKind → Ranges
kind_ranges field = ranges.None
kind_ranges (method o g) = g

-- the row of a member whose texts stand at the place `p`
abbrev pub entry_row : ℕ → Entry → List ℕ
entry_row p e =
    pack_member
    (record {
      kind = kind_number e.kind;
      class = e.class;
      raw_name = text p (length e.raw_name);
      descriptor = text (p + length e.raw_name) (length e.descriptor);
      name = text (p + length e.raw_name + length e.descriptor) (length e.name);
      owner = owner_at (p + length e.raw_name + length e.descriptor + length e.name) e.kind;
      ranges = kind_ranges e.kind;
    })

abbrev pub entry_rows : ℕ → List Entry → List (List ℕ)
entry_rows p es = rows_from entry_row entry_text p es
