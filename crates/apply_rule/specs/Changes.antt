-- Document 01 "Tree file (added)": what a mapping makes of each token of a tree. `name` gives the text of a name by its number; a class is
-- its raw descriptor.
use Rattle.std.specs.Prelude.{Bool, false, List, [], ◌∷◌, ◌++◌, ℕ, suc, eqb, get_or, Option, Some, None}
use Rattle.ground.specs.Choice.{pick, both, either}
use Rattle.ground.specs.Look.{Look, known, unknown, is_known}
use Rattle.text_places.specs.Places.{same}
use Rattle.table_rows.specs.Classes.{shown}
use Rattle.descriptor.specs.Pieces.{Part, byte, piece, parts_from, turn}
use Rattle.name_lines.specs.LineNames.{raw_line}
use Rattle.name_rule.specs.Mappings.{Mapping}
use Rattle.name_rule.specs.MemberNames.{Key, key, field_name, method_name, line_of_method}
use Rattle.tree_rule.specs.declared.Token.{Token}
use Rattle.tree_rule.specs.declared.Token.TheVariants.{Other, MemberName, Descriptor, SourceLine}
use Rattle.tree_rule.specs.declared.Owner.{Owner}
use Rattle.tree_rule.specs.declared.Owner.TheVariants.{Given, At}
use Rattle.tree_rule.specs.Trees.{Parent, no_parent, parent_row, Node}
use Rattle.tree_rule.specs.Signatures.{opens, node_signature}
use Rattle.name_lines.specs.declared.lines.DisplayLine.{DisplayLine}
use Rattle.tree_rule.specs.declared.NodeSignature.{NodeSignature}

-- What becomes of a token's `b`.
pub data Change : Type 0 where
  stays : Change
  -- a name is appended, and its number put there
  named : List ℕ → Change
  -- a line is put there
  lined : ℕ → Change

abbrev pub name_change : Look → Change
name_change (known s) = named s
name_change unknown = stays

abbrev pub line_change : Option DisplayLine → Change
line_change (Some n) = lined n.0
line_change None = stays

-- Descriptors.

-- "one piece is known"
unfoldable pub piece_known : (List ℕ → Look) → List Part → Bool
piece_known look [] = false
piece_known look (byte b ∷ parts) = piece_known look parts
piece_known look (piece p ∷ parts) = either (is_known (look p)) (piece_known look parts)

-- "A descriptor is replaced if one piece is known": each piece that is known is turned to its display
abbrev pub shown_descriptor : (List ℕ → Look) → List ℕ → Look
shown_descriptor look d = pick (piece_known look (parts_from [] d)) (known (turn look d)) unknown

-- Signatures, by their texts.

-- the raw name of a token
abbrev pub raw_name_of : (ℕ → List ℕ) → Token → List ℕ
raw_name_of name (Other a b) = []
raw_name_of name (MemberName raw display) = name raw
raw_name_of name (Descriptor raw display) = name raw
raw_name_of name (SourceLine raw display) = []

abbrev pub raw_name_at : (ℕ → List ℕ) → List Token → ℕ → List ℕ
raw_name_at name ts i = raw_name_of name (get_or ts i (Other 0 0))

-- "as owner the nearest earlier descriptor not starting `(`, else the class given"
abbrev pub owner_name : List ℕ → (ℕ → List ℕ) → List Token → Owner → List ℕ
owner_name class name ts Given = class
owner_name class name ts (At i) = raw_name_at name ts i

-- the member that a node names, by the place of its member name among the node's tokens; members are looked up by raw descriptors
pub data Signed : Type 0 where
  unsigned : Signed
  signed : ℕ → Key → Signed

abbrev pub signed_by : List ℕ → (ℕ → List ℕ) → List Token → Option NodeSignature → Signed
signed_by class name ts None = unsigned
signed_by class name ts (Some r) =
    signed r.member (key (owner_name class name ts r.owner) (raw_name_at name ts r.member) (raw_name_at name ts r.descriptor))

abbrev pub signed_of : List ℕ → (ℕ → List ℕ) → List Token → Signed
signed_of class name ts = signed_by class name ts (node_signature name ts)

-- "Starting `(` means method."
abbrev pub member_name : Mapping → Key → Look
member_name m k = pick (opens k.descriptor) (method_name m k) (field_name m k)

-- Line contexts.

-- a method of the class given, by its raw name and raw descriptor, or none
pub data Context : Type 0 where
  no_method : Context
  in_method : List ℕ → List ℕ → Context

-- "A method whose owner is the class given becomes the line context of the node itself and all below; otherwise the parent's holds."
abbrev pub context_by : List ℕ → Signed → Context → Context
context_by class unsigned above = above
context_by class (signed at k) above = pick (both (opens k.descriptor) (same k.owner class)) (in_method k.name k.descriptor) above

-- the parent's, where `done` are the contexts of all rows before: a parent is "a lower row"
abbrev pub context_above : List Context → Parent → Context
context_above done no_parent = no_method
context_above done (parent_row p) = get_or done p no_method

abbrev pub context_of : List ℕ → (ℕ → List ℕ) → List Context → Node → Context
context_of class name done n = context_by class (signed_of class name n.tokens) (context_above done n.parent)

abbrev pub context_line : Mapping → List ℕ → Context → ℕ → Option DisplayLine
context_line m class no_method line = None
context_line m class (in_method n d) line = line_of_method m (key class n d) (raw_line line)

-- Tokens.

-- the member name of a signature, which stands at a place of its own; other member names stay
abbrev pub member_change : Mapping → Signed → ℕ → Change
member_change m unsigned at = stays
member_change m (signed place k) at = pick (eqb at place) (name_change (member_name m k)) stays

-- the token at the place `at` of a node with that signature and that context
abbrev pub change_of : Mapping → List ℕ → (ℕ → List ℕ) → Signed → Context → ℕ → Token → Change
change_of m class name s c at (Other a b) = stays
change_of m class name s c at (MemberName raw display) = member_change m s at
change_of m class name s c at (Descriptor raw display) = name_change (shown_descriptor (shown m.classes) (name raw))
change_of m class name s c at (SourceLine raw display) = line_change (context_line m class c raw)

-- a token and what becomes of it
pub record Changed : Type 0 where
  pub token : Token
  pub change : Change

pub record ChangedNode : Type 0 where
  pub parent : Parent
  pub tokens : List Changed

-- tokens of one node, from the place `at` on
unfoldable pub changed_from : (ℕ → Token → Change) → ℕ → List Token → List Changed
changed_from change at [] = []
changed_from change at (t ∷ ts) = record { token = t; change = change at t } ∷ changed_from change (suc at) ts

abbrev pub changed_node : Mapping → List ℕ → (ℕ → List ℕ) → Context → Node → ChangedNode
changed_node m class name c n =
    record {
      parent = n.parent;
      tokens = changed_from (change_of m class name (signed_of class name n.tokens) c) 0 n.tokens;
    }

-- all nodes, in row order; `done` are the contexts of those before
unfoldable pub changed_nodes : Mapping → List ℕ → (ℕ → List ℕ) → List Context → List Node → List ChangedNode
changed_nodes m class name done [] = []
changed_nodes m class name done (n ∷ ns) =
    changed_node m class name (context_of class name done n) n ∷
    changed_nodes m class name (done ++ (context_of class name done n ∷ [])) ns
