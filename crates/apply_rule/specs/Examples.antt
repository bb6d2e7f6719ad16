-- Small trees with a mapping applied, computed from the rules.
use Rattle.std.specs.Prelude.{◌≡◌, refl, true, false, List, [], ◌∷◌, ◌++◌, ℕ}
use Rattle.ground.specs.Ascii.{ascii}
use Rattle.ground.specs.Join.{join}
use Rattle.ground.specs.Look.{known, unknown}
use Rattle.text_places.specs.Places.{same}
use Rattle.table_rows.specs.declared.rows.Ranges.TheVariants.{Both}
use Rattle.table_rows.specs.declared.rows.Text.{Text}
use Rattle.table_rows.specs.Rows.{text}
use Rattle.table_rows.specs.Classes.{pair, shown}
use Rattle.descriptor.specs.Pieces.{parts_from}
use Rattle.load_rule.specs.Members.{MemberKind, field, method, Entry}
use Rattle.name_rule.specs.Mappings.{Mapping, mapping}
use Rattle.name_rule.specs.MemberNames.{raw_of_row, last_named, last_translated}
use Rattle.tree_rule.specs.declared.Token.{Token}
use Rattle.tree_rule.specs.declared.Token.TheVariants.{Other, MemberName, Descriptor, SourceLine}
use Rattle.tree_rule.specs.Trees.{Parent, no_parent, parent_row, Node, Tree, other, member_name, descriptor, source_line, meaning_of}
use Rattle.tree_rule.specs.Signatures.{first_token, last_token}
use Rattle.apply_rule.specs.Changes.{piece_known, shown_descriptor, changed_from, changed_nodes}
use Rattle.apply_rule.specs.Applying.{new_names, numbered, numbered_nodes, all_changed, name_rows, applied_tree, fits_in}

abbrev member : List ℕ → List ℕ → List ℕ → MemberKind → Entry
member r d n k = record { class = 0; raw_name = r; descriptor = d; name = n; kind = k }

-- `Lx;` is shown as `La/Main;`, its field `b` as `n`, its method `c` with the descriptor `(Lx;)V` as `run`, raw lines 1 to 3 as 10 to 12;
-- the method `e` keeps its name
abbrev mapped : Mapping
mapped =
    mapping (pair (ascii "Lx;") (ascii "La/Main;") ∷ [])
    (member (ascii "b") (ascii "I") (ascii "n") field ∷
    member (ascii "c") (ascii "(Lx;)V") (ascii "run") (method (ascii "La/Main;") (Both 1 3 10 12)) ∷
    member (ascii "e") (ascii "()V") (ascii "e") (method (ascii "La/Main;") (Both 1 1 20 20)) ∷ [])

descriptors :
    (shown_descriptor (shown mapped.classes) (ascii "[Lx;") ≡ known (ascii "[La/Main;"))
    × (shown_descriptor (shown mapped.classes) (ascii "(Ly;ILx;)Lx;") ≡ known (ascii "(Ly;ILa/Main;)La/Main;"))
    -- no piece, none that is known, an `L` with no `;`
    × (shown_descriptor (shown mapped.classes) (ascii "I") ≡ unknown)
    × (shown_descriptor (shown mapped.classes) (ascii "Ly;") ≡ unknown)
    × (shown_descriptor (shown mapped.classes) (ascii "Lx") ≡ unknown)
unfolding ascii same shown parts_from piece_known join
descriptors = (refl, refl, refl, refl, refl)

-- the texts "c", "(Lx;)V", "Lx;", "b", "I", "e", "()V", "Ly;" one after the other, each a name
abbrev names : List Text
names = text 0 1 ∷ text 1 6 ∷ text 2 3 ∷ text 7 1 ∷ text 8 1 ∷ text 9 1 ∷ text 10 3 ∷ text 13 3 ∷ []

abbrev bytes : List ℕ
bytes = ascii "c(Lx;)VbIe()VLy;"

-- the name of that number, shown as itself; a line, shown as itself
abbrev name_token : ℕ → Token
name_token n = MemberName n n

abbrev type_token : ℕ → Token
type_token n = Descriptor n n

abbrev line_token : ℕ → Token
line_token n = SourceLine n n

abbrev node : Parent → List Token → Node
node p ts = record { parent = p; tokens = ts }

abbrev tree : List Node → Tree
tree ns = record { nodes = ns; names = names; bytes = bytes }

-- a class with a method: its own line and one below it, an invocation of another method of the class, and of a method of `Ly;`
abbrev small : Tree
small =
    tree (
    node no_parent (type_token 2 ∷ line_token 1 ∷ []) ∷
    node (parent_row 0) (Other 1 2 ∷ name_token 0 ∷ type_token 1 ∷ line_token 1 ∷ []) ∷
    node (parent_row 1) (line_token 3 ∷ line_token 4 ∷ []) ∷
    node (parent_row 1) (type_token 2 ∷ name_token 5 ∷ type_token 6 ∷ line_token 1 ∷ []) ∷
    node (parent_row 1) (type_token 7 ∷ name_token 0 ∷ type_token 1 ∷ line_token 2 ∷ []) ∷
    node (parent_row 0) (type_token 2 ∷ name_token 3 ∷ type_token 4 ∷ name_token 3 ∷ line_token 1 ∷ []) ∷ [])

shown_small :
    meaning_of (applied_tree mapped (ascii "Lx;") small) ≡
    -- outside of all methods lines stay
    record { parent = no_parent; tokens = descriptor (ascii "Lx;") (ascii "La/Main;") ∷ source_line 1 1 ∷ [] } ∷
    record {
      parent = parent_row 0;
      tokens =
          other 1 2 ∷ member_name (ascii "c") (ascii "run") ∷ descriptor (ascii "(Lx;)V") (ascii "(La/Main;)V") ∷ source_line 1 10 ∷ [];
    } ∷
    -- the parent's context; a line that the raw range does not hold stays
    record { parent = parent_row 1; tokens = source_line 3 12 ∷ source_line 4 4 ∷ [] } ∷
    -- an invocation's own line is that of the method of the class given
    record {
      parent = parent_row 1;
      tokens =
          descriptor (ascii "Lx;") (ascii "La/Main;") ∷ member_name (ascii "e") (ascii "e") ∷ descriptor (ascii "()V") (ascii "()V") ∷
          source_line 1 20 ∷ [];
    } ∷
    -- of another class: the enclosing context
    record {
      parent = parent_row 1;
      tokens =
          descriptor (ascii "Ly;") (ascii "Ly;") ∷ member_name (ascii "c") (ascii "c") ∷
          descriptor (ascii "(Lx;)V") (ascii "(La/Main;)V") ∷ source_line 2 11 ∷ [];
    } ∷
    -- a field; of two member names the first
    record {
      parent = parent_row 0;
      tokens =
          descriptor (ascii "Lx;") (ascii "La/Main;") ∷ member_name (ascii "b") (ascii "n") ∷ descriptor (ascii "I") (ascii "I") ∷
          member_name (ascii "b") (ascii "b") ∷ source_line 1 1 ∷ [];
    } ∷ []
unfolding ascii same shown parts_from piece_known join raw_of_row last_named last_translated first_token last_token changed_from changed_nodes new_names
    numbered numbered_nodes all_changed name_rows
shown_small = refl

-- One node: for each replaced name one row and body, a name that equals the raw one too, in token order.
abbrev equal : Tree
equal = tree (node no_parent (type_token 2 ∷ name_token 5 ∷ type_token 6 ∷ []) ∷ [])

appended :
    applied_tree mapped (ascii "Lx;") equal ≡
    record {
      nodes = node no_parent (Descriptor 2 8 ∷ MemberName 5 9 ∷ Descriptor 6 6 ∷ []) ∷ [];
      names = names ++ (text 16 8 ∷ text 24 1 ∷ []);
      bytes = bytes ++ ascii "La/Main;e";
    }
unfolding ascii same shown parts_from piece_known join raw_of_row last_named last_translated first_token last_token changed_from changed_nodes new_names
    numbered numbered_nodes all_changed name_rows
appended = refl

room :
    (fits_in 100 100 ≡ true)
    × (fits_in 99 100 ≡ false)
    × (fits_in 5000000 4194304 ≡ true)
    × (fits_in 5000000 4194305 ≡ false)
room = (refl, refl, refl, refl)
