-- Document 01 "Tree file (added)": "Output: same rows; for each replaced name, in token order, one name row and body appended, even if
-- equal, its number put in b; a replaced line goes into b. An accepted apply returns the output's length."
use Rattle.std.specs.Prelude.{Bool, List, [], ◌∷◌, ◌++◌, ℕ, ◌+◌, ◌-◌, leb, length, replicate, Result, Ok, Err}
use Rattle.ground.specs.Choice.{pick, both}
use Rattle.ground.specs.Join.{join}
use Rattle.table_rows.specs.declared.rows.Text.{Text}
use Rattle.table_rows.specs.Rows.{text}
use Rattle.table_rows.specs.Tables.{Tables}
use Rattle.tables.specs.declared.check.Used.{Used}
use Rattle.tables.specs.Check.{well_formed}
use Rattle.name_rule.specs.Mappings.{Mapping, mapping_of}
use Rattle.tree_rule.specs.declared.Token.{Token}
use Rattle.tree_rule.specs.declared.Token.TheVariants.{Other, MemberName, Descriptor, SourceLine}
use Rattle.tree_rule.specs.Trees.{Node, Tree, name_in}
use Rattle.tree_rule.specs.Files.{read_tree, written_tree}
use Rattle.tree_rule.specs.Checks.{well_formed_file}
use Rattle.apply_rule.specs.Changes.{Change, stays, named, lined, Changed, ChangedNode, changed_nodes}
use Rattle.apply_rule.specs.declared.ApplyError.{ApplyError}
use Rattle.apply_rule.specs.declared.ApplyError.TheVariants.{Malformed, TooLong, BadTree, NoRoom}

-- "put in b"
abbrev pub with_display : ℕ → Token → Token
with_display n (Other a b) = Other a n
with_display n (MemberName raw display) = MemberName raw n
with_display n (Descriptor raw display) = Descriptor raw n
with_display n (SourceLine raw display) = SourceLine raw n

-- a token as it comes out, where the next name that is appended has the number `next`
abbrev pub token_with : ℕ → Change → Token → Token
token_with next stays t = t
token_with next (named s) t = with_display next t
token_with next (lined n) t = with_display n t

-- "for each replaced name, in token order, one name .. appended, even if equal"
abbrev pub name_of : Change → List (List ℕ)
name_of stays = []
name_of (named s) = s ∷ []
name_of (lined n) = []

unfoldable pub new_names : List Changed → List (List ℕ)
new_names [] = []
new_names (c ∷ cs) = name_of c.change ++ new_names cs

-- "its number put in b"
unfoldable pub numbered : ℕ → List Changed → List Token
numbered next [] = []
numbered next (c ∷ cs) = token_with next c.change c.token ∷ numbered (next + length (name_of c.change)) cs

unfoldable pub numbered_nodes : ℕ → List ChangedNode → List Node
numbered_nodes next [] = []
numbered_nodes next (n ∷ ns) =
    record { parent = n.parent; tokens = numbered next n.tokens } ∷ numbered_nodes (next + length (new_names n.tokens)) ns

unfoldable pub all_changed : List ChangedNode → List Changed
all_changed [] = []
all_changed (n ∷ ns) = n.tokens ++ all_changed ns

-- "one name row and body": bodies stand one after the other behind the bytes that were there, `at` of them and more
unfoldable pub name_rows : ℕ → List (List ℕ) → List Text
name_rows at [] = []
name_rows at (s ∷ ss) = text at (length s) ∷ name_rows (at + length s) ss

-- the nodes with what becomes of their tokens
abbrev pub changed_in : Mapping → List ℕ → Tree → List ChangedNode
changed_in m class t = changed_nodes m class (name_in t) [] t.nodes

-- the tree with changes
abbrev pub tree_with : Tree → List ChangedNode → Tree
tree_with t ns =
    record {
      nodes = numbered_nodes (length t.names) ns;
      names = t.names ++ name_rows (length t.bytes) (new_names (all_changed ns));
      bytes = t.bytes ++ join (new_names (all_changed ns));
    }

abbrev pub applied_tree : Mapping → List ℕ → Tree → Tree
applied_tree m class t = tree_with t (changed_in m class t)

abbrev pub applied_file : Mapping → List ℕ → List ℕ → List ℕ
applied_file m class file = written_tree (applied_tree m class (read_tree file))

-- 1: "tree file over 4,194,304"; 13: "output shorter than needed, or more than 4,194,304 needed"
abbrev pub most_tree : ℕ
most_tree = 4194304

abbrev pub fits_in : ℕ → ℕ → Bool
fits_in room needed = both (leb needed room) (leb needed most_tree)

-- What is answered, and what the output is, where `room` is its length.
abbrev pub output_in : ℕ → List ℕ → List ℕ
output_in room written = written ++ replicate (room - length written) 0

-- "Apply: 14, 1, 12, 13. Each is given exactly when stated." One of five ways: `done` where nothing is refused
abbrev pub applied : {A : Type 0} → Tables → Used → List ℕ → List ℕ → ℕ → (Result ℕ ApplyError → A) → (List ℕ → A) → A
applied t used class file room refused done =
    let written : List ℕ = applied_file (mapping_of t used) class file in
    pick (well_formed t.classes t.members t.pool used)
    (pick (leb (length file) most_tree)
    (pick (well_formed_file file) (pick (fits_in room (length written)) (done written) (refused (Err NoRoom))) (refused (Err BadTree))) (refused (Err TooLong)))
    (refused (Err Malformed))

abbrev pub apply_answer : Tables → Used → List ℕ → List ℕ → ℕ → Result ℕ ApplyError
apply_answer t used class file room = applied t used class file room (λ a. a) (λ written. Ok (length written))

-- "Apply treats its output likewise": refused, it is zero; accepted, what is not used is zero
abbrev pub apply_output : Tables → Used → List ℕ → List ℕ → ℕ → List ℕ
apply_output t used class file room = applied t used class file room (λ a. replicate room 0) (output_in room)

-- document 01's number and value of each answer
abbrev pub applied_number : Result ℕ ApplyError → ℕ
applied_number (Ok n) = 0
applied_number (Err Malformed) = 14
applied_number (Err TooLong) = 1
applied_number (Err BadTree) = 12
applied_number (Err NoRoom) = 13

abbrev pub applied_length : Result ℕ ApplyError → ℕ
applied_length (Ok n) = n
applied_length (Err Malformed) = 0
applied_length (Err TooLong) = 0
applied_length (Err BadTree) = 0
applied_length (Err NoRoom) = 0

abbrev pub applied_numbers : Result ℕ ApplyError → List ℕ
applied_numbers a = applied_number a ∷ applied_length a ∷ []

-- and what is answered in these: "number, the output's length"
abbrev pub apply_numbers : Tables → Used → List ℕ → List ℕ → ℕ → List ℕ
apply_numbers t used class file room = applied_numbers (apply_answer t used class file room)
