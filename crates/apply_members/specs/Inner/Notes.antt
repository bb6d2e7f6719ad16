-- What is noted of a node: rows by their numbers, their place and one more, or 0 where there is none.
use Rattle.std.specs.Prelude.{◌≡◌, Bool, true, false, not, List, [], ℕ, zero, suc, ◌+◌, ◌-◌, ◌<◌, eqb, get_or, Option, Some, None}
use Rattle.ground.specs.Choice.{pick, both}
use Rattle.ground.specs.Look.{known}
use Rattle.text_places.specs.Places.{same}
use Rattle.table_rows.specs.Rows.{unpack_class, unpack_member}
use Rattle.tables.specs.Back.{text_in, read_back}
use Rattle.tables.specs.Search.{last_raw}
use Rattle.name_lines.specs.declared.lines.RawLine.{RawLine}
use Rattle.name_rule.specs.Mappings.{mapping, entries_back, kind_back}
use Rattle.name_rule.specs.MemberNames.{Key, key, owned_by, line_of_method}
use Rattle.name_rule.specs.MemberRows.{field_row, method_row}
use Rattle.name_index.specs.Inner.Chains.{key_of_row, own_row}
use Rattle.tree_rule.specs.declared.Token.{Token}
use Rattle.tree_rule.specs.declared.Owner.{Owner}
use Rattle.tree_rule.specs.declared.Owner.TheVariants.{Given, At}
use Rattle.tree_rule.specs.Signatures.{opens}
use Rattle.apply_rule.specs.Changes.{raw_name_of, Signed, unsigned, signed, Context, no_method, in_method}
use Rattle.apply_members.specs.declared.member.MemberNote.{MemberNote}
use Rattle.apply_members.specs.declared.node.NodeNote.{NodeNote}
use Rattle.name_lines.specs.declared.lines.DisplayLine.{DisplayLine}

abbrev pub noted_row : Option ℕ → ℕ
noted_row (Some i) = suc i
noted_row None = 0

abbrev pub note : ℕ → Bool → ℕ → MemberNote
note n i l = record { named = n; inherits = i; lines = l }

-- "A method whose owner is the class given"
abbrev pub is_home : List ℕ → List ℕ → List ℕ → Bool
is_home class owner descriptor = both (opens descriptor) (same owner class)

-- a class row is the one that is found
abbrev pub is_row : Option ℕ → ℕ → Bool
is_row (Some i) row = eqb i row
is_row None row = false

abbrev pub field_note : List (List ℕ) → List (List ℕ) → List ℕ → Key → MemberNote
field_note classes rows pool k = note (noted_row (field_row (read_back classes pool) k rows pool)) true 0

abbrev pub method_note : List (List ℕ) → List (List ℕ) → List ℕ → Key → Bool → MemberNote
method_note classes rows pool k home =
    note (noted_row (method_row (read_back classes pool) k rows pool)) (not home) (pick home (noted_row (own_row classes rows pool k)) 0)

-- the display owner of the row `row` is the display of the class row `class`
abbrev pub owns_row : List (List ℕ) → List (List ℕ) → List ℕ → ℕ → ℕ → Bool
owns_row classes rows pool class row =
    owned_by (known (text_in pool (unpack_class (get_or classes class [])).display)) (kind_back pool (unpack_member (get_or rows row [])))

-- the note of a method of the class at the class row `class`, by the row that names the method
abbrev pub found_note : List (List ℕ) → List (List ℕ) → List ℕ → ℕ → Option ℕ → Bool → MemberNote
found_note classes rows pool class (Some row) home =
    note (suc row) (not home) (pick home (pick (owns_row classes rows pool class row) (suc row) 0) 0)
found_note classes rows pool class None home = note 0 (not home) 0

-- the note of a member by its key, where `home` says whether its owner is the class given
abbrev pub row_note : List (List ℕ) → List (List ℕ) → List ℕ → Key → Bool → MemberNote
row_note classes rows pool k home = pick (opens k.descriptor) (method_note classes rows pool k home) (field_note classes rows pool k)

abbrev pub member_note : List (List ℕ) → List (List ℕ) → List ℕ → List ℕ → Key → MemberNote
member_note classes rows pool class k =
    pick (opens k.descriptor) (method_note classes rows pool k (is_home class k.owner k.descriptor))
    (field_note classes rows pool k)

-- the owner of a member, where `token` gives a token by its number in the file
abbrev pub token_owner : List ℕ → (ℕ → List ℕ) → (ℕ → Token) → Owner → List ℕ
token_owner class name token Given = class
token_owner class name token (At i) = raw_name_of name (token i)

-- the class row of that owner, where `given` is the class row of the class given
abbrev pub token_found : List (List ℕ) → List ℕ → Option ℕ → (ℕ → List ℕ) → (ℕ → Token) → Owner → Option ℕ
token_found classes pool given name token Given = given
token_found classes pool given name token (At i) = last_raw classes pool (raw_name_of name (token i))

-- the note of a node whose first token has the number `first`: its member name goes by the number of its token
abbrev pub node_note : ℕ → ℕ → MemberNote → NodeNote
node_note first at n = record { member = first + at; named = n.named; inherits = n.inherits; lines = n.lines }

abbrev pub note_signed : List (List ℕ) → List (List ℕ) → List ℕ → List ℕ → ℕ → Signed → NodeNote
note_signed classes rows pool class first unsigned = node_note 0 0 (note 0 true 0)
note_signed classes rows pool class first (signed at k) = node_note first at (member_note classes rows pool class k)

-- the number by which a line context is noted
abbrev pub context_number : List (List ℕ) → List (List ℕ) → List ℕ → List ℕ → Context → ℕ
context_number classes rows pool class no_method = 0
context_number classes rows pool class (in_method n d) = noted_row (own_row classes rows pool (key class n d))

-- the class row of the class given; any where there is none
abbrev pub home_row : Option ℕ → ℕ
home_row (Some i) = i
home_row None = 0

-- The row `row` is the last of its method whose display owner is the display of the class at the class row `home`.
pub record Meant (classes rows : List (List ℕ)) (pool : List ℕ) (home row : ℕ) : Type 0 where
  pub class_row_lem : last_raw classes pool (text_in pool (unpack_class (get_or classes home [])).raw) ≡ Some home
  pub own_row_lem : own_row classes rows pool (key_of_row classes rows pool home row) ≡ Some row

-- so is that of the number of a line context, if there is one
pub record MeantBy (classes rows : List (List ℕ)) (pool : List ℕ) (home context : ℕ) : Type 0 where
  pub meant : 0 < context → Meant classes rows pool home (context - 1)

-- the line by the number of a line context
abbrev pub line_by : List (List ℕ) → List (List ℕ) → List ℕ → ℕ → ℕ → RawLine → Option DisplayLine
line_by classes rows pool home zero n = None
line_by classes rows pool home (suc row) n =
    line_of_method (mapping (read_back classes pool) (entries_back rows pool)) (key_of_row classes rows pool home row) n
