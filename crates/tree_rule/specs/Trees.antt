-- Document 01 "Tree file (added)": what a tree file holds, as lists.
use Rattle.std.specs.Prelude.{List, map, ℕ, get_or}
use Rattle.table_rows.specs.declared.rows.Text.{Text}
use Rattle.table_rows.specs.Rows.{text}
use Rattle.tables.specs.Back.{text_in}
use Rattle.tree_rule.specs.declared.Token.{Token}
use Rattle.tree_rule.specs.declared.Token.TheVariants.{Other, MemberName, Descriptor, SourceLine}

-- "row 0's parent is FFFFFFFF, any other's a lower row"
pub data Parent : Type 0 where
  no_parent : Parent
  parent_row : ℕ → Parent

pub record Node : Type 0 where
  pub parent : Parent
  pub tokens : List Token

-- "S name rows (place among the name bytes, length)" are kept as they stand, and so are the bytes: rows may share bytes, and some bytes
-- may be named by none
pub record Tree : Type 0 where
  pub nodes : List Node
  pub names : List Text
  pub bytes : List ℕ

-- the text of a name
abbrev pub name_in : Tree → ℕ → List ℕ
name_in t n = text_in t.bytes (get_or t.names n (text 0 0))

-- What a token means: names are the texts that they stand for. Kind 0 stays as it is.
pub data Meant : Type 0 where
  other : ℕ → ℕ → Meant
  member_name : List ℕ → List ℕ → Meant
  descriptor : List ℕ → List ℕ → Meant
  source_line : ℕ → ℕ → Meant

abbrev pub meant_by : (ℕ → List ℕ) → Token → Meant
meant_by name (Other a b) = other a b
meant_by name (MemberName raw display) = member_name (name raw) (name display)
meant_by name (Descriptor raw display) = descriptor (name raw) (name display)
meant_by name (SourceLine raw display) = source_line raw display

pub record MeantNode : Type 0 where
  pub parent : Parent
  pub tokens : List Meant

abbrev pub meant_node : (ℕ → List ℕ) → Node → MeantNode
meant_node name n = record { parent = n.parent; tokens = map (meant_by name) n.tokens }

-- a tree for readers: its nodes in row order, with texts for names
abbrev pub meaning_of : Tree → List MeantNode
meaning_of t = map (meant_node (name_in t)) t.nodes
