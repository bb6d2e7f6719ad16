-- Small tree files, computed from the rules.
use Rattle.std.specs.Prelude.{◌≡◌, refl, Bool, true, false, List, [], ◌∷◌, ◌++◌, map, ℕ, length, get_or, set, take, replicate, Some, None, Option}
use Rattle.ground.specs.Ascii.{ascii}
use Rattle.ground.specs.Join.{join}
use Rattle.text_utf8.specs.Utf8.{lead_of, tails, after_lead, sequence_of, pieces_from, check_from}
use Rattle.table_rows.specs.Rows.{text}
use Rattle.tree_rule.specs.declared.Token.{Token}
use Rattle.tree_rule.specs.declared.Token.TheVariants.{Other, MemberName, Descriptor, SourceLine}
use Rattle.tree_rule.specs.declared.Owner.TheVariants.{Given, At}
use Rattle.tree_rule.specs.Words.{word_at, word_bytes, list_from, sum_from}
use Rattle.tree_rule.specs.Trees.{no_parent, parent_row, Tree, other, member_name, descriptor, source_line, meaning_of}
use Rattle.tree_rule.specs.Files.{tree_counts, counts_in, nodes_from, read_tree, all_tokens, written_tree}
use Rattle.tree_rule.specs.Checks.{
  first_faulty,
  all_fine,
  length_agrees,
  root_fine,
  faulty_parent,
  counts_sum,
  faulty_token,
  faulty_name,
  faulty_text,
  well_formed_file,
}
use Rattle.tree_rule.specs.Signatures.{first_token, last_token, node_signature, signature_from, names_method, member_named}
use Rattle.tree_rule.specs.declared.NodeSignature.{NodeSignature}

-- one node with one source line, 258 shown as 10; one name, the second of two bytes
abbrev one : Tree
one =
    record {
      nodes = record { parent = no_parent; tokens = SourceLine 258 10 ∷ [] } ∷ [];
      names = text 1 1 ∷ [];
      bytes = ascii "ab";
    }

-- byte by byte: the four counts, a node row, a token row, a name row, the bytes
abbrev one_file : List ℕ
one_file =
    1 ∷ 0 ∷ 0 ∷ 0 ∷ 1 ∷ 0 ∷ 0 ∷ 0 ∷ 1 ∷ 0 ∷ 0 ∷ 0 ∷ 2 ∷ 0 ∷ 0 ∷ 0 ∷
    0xFF ∷ 0xFF ∷ 0xFF ∷ 0xFF ∷ 1 ∷ 0 ∷ 0 ∷ 0 ∷
    3 ∷ 0 ∷ 0 ∷ 0 ∷ 2 ∷ 1 ∷ 0 ∷ 0 ∷ 10 ∷ 0 ∷ 0 ∷ 0 ∷
    1 ∷ 0 ∷ 0 ∷ 0 ∷ 1 ∷ 0 ∷ 0 ∷ 0 ∷
    0x61 ∷ 0x62 ∷ []

one_file_lem : (written_tree one ≡ one_file) × (read_tree one_file ≡ one) × (well_formed_file one_file ≡ true)
unfolding ascii join word_at word_bytes list_from sum_from nodes_from all_tokens first_faulty check_from pieces_from sequence_of after_lead lead_of
    tails
one_file_lem = (refl, refl, refl)

-- two nodes, with tokens of all kinds; a name that no token has, and two names that share bytes
abbrev two : Tree
two =
    record {
      nodes =
          record { parent = no_parent; tokens = Other 7 9 ∷ MemberName 0 3 ∷ Descriptor 1 2 ∷ [] } ∷
          record { parent = parent_row 0; tokens = SourceLine 4294967295 5 ∷ [] } ∷ [];
      names = text 0 1 ∷ text 1 3 ∷ text 1 3 ∷ text 1 0 ∷ text 3 1 ∷ [];
      bytes = ascii "n()V";
    }

two_files :
    (read_tree (written_tree two) ≡ two)
    × (well_formed_file (written_tree two) ≡ true)
    × (length (written_tree two) ≡ 124)
    × (meaning_of two ≡
    record { parent = no_parent; tokens = other 7 9 ∷ member_name (ascii "n") [] ∷ descriptor (ascii "()V") (ascii "()V") ∷ [] } ∷
    record { parent = parent_row 0; tokens = source_line 4294967295 5 ∷ [] } ∷ [])
unfolding ascii join word_at word_bytes list_from sum_from nodes_from all_tokens first_faulty check_from pieces_from sequence_of after_lead lead_of
    tails
two_files = (refl, refl, refl, refl)

-- A file with three nodes, two tokens, one name and three bytes, to spoil it number by number: its counts, its node rows, the second token
-- and the name.
abbrev spoilt : List ℕ → List ℕ → List ℕ → List ℕ → List ℕ → List ℕ → List ℕ
spoilt counts first second third token name =
    join (map word_bytes (counts ++ (first ++ (second ++ (third ++ (0 ∷ 8 ∷ 9 ∷ (token ++ name))))))) ++
    (0x61 ∷ 0xC3 ∷ 0xA9 ∷ [])

abbrev counts : List ℕ
counts = 3 ∷ 2 ∷ 1 ∷ 3 ∷ []

abbrev root : List ℕ
root = 4294967295 ∷ 0 ∷ []

abbrev child : List ℕ
child = 0 ∷ 1 ∷ []

abbrev grandchild : List ℕ
grandchild = 1 ∷ 1 ∷ []

abbrev token : List ℕ
token = 1 ∷ 0 ∷ 0 ∷ []

abbrev name : List ℕ
name = 1 ∷ 2 ∷ []

abbrev whole : List ℕ
whole = spoilt counts root child grandchild token name

-- what each check says, in document 01's order
abbrev checked : List ℕ → List Bool
checked f =
    let c = counts_in f in
    length_agrees c f ∷ root_fine c f ∷ all_fine (faulty_parent c f) ∷ counts_sum c f ∷ all_fine (faulty_token c f) ∷ all_fine
    (faulty_name c f) ∷
    all_fine (faulty_text c f) ∷ []

-- one check fails, by its place in that order from 0, and the others pass
abbrev only : ℕ → List Bool
only k = set (replicate 7 true) k false

formed :
    (well_formed_file whole ≡ true)
    × (checked whole ≡ replicate 7 true)
    -- the length: a byte missing, a byte too many, nothing, counts that are too large for any file
    × (checked (take 74 (spoilt counts root child grandchild token (0 ∷ 1 ∷ []))) ≡ only 0)
    × (checked (whole ++ (0 ∷ [])) ≡ only 0)
    × (well_formed_file [] ≡ false)
    × (length_agrees (tree_counts 536870912 0 0 0) (ascii "1234567890123456") ≡ false)
    -- the root: it has a parent, or there is no node
    × (checked (spoilt counts (0 ∷ 0 ∷ []) child grandchild token name) ≡ only 1)
    × (checked (replicate 16 0) ≡ only 1)
    -- a parent that is its own row, one that says "no parent"
    × (checked (spoilt counts root child (2 ∷ 1 ∷ []) token name) ≡ only 2)
    × (checked (spoilt counts root (4294967295 ∷ 1 ∷ []) grandchild token name) ≡ only 2)
    -- token counts that sum to less, to more
    × (checked (spoilt counts root (0 ∷ 0 ∷ []) grandchild token name) ≡ only 3)
    × (checked (spoilt counts root (0 ∷ 2 ∷ []) grandchild token name) ≡ only 3)
    -- another kind, a raw name and a display name that are not there; a source line's numbers are no names
    × (checked (spoilt counts root child grandchild (4 ∷ 0 ∷ 0 ∷ []) name) ≡ only 4)
    × (checked (spoilt counts root child grandchild (1 ∷ 1 ∷ 0 ∷ []) name) ≡ only 4)
    × (checked (spoilt counts root child grandchild (2 ∷ 0 ∷ 1 ∷ []) name) ≡ only 4)
    × (well_formed_file (spoilt counts root child grandchild (3 ∷ 1 ∷ 1 ∷ []) name) ≡ true)
    -- a name that ends one byte past the last; an empty one at the end, and one past it
    × (checked (spoilt counts root child grandchild token (1 ∷ 3 ∷ [])) ≡ only 5)
    × (well_formed_file (spoilt counts root child grandchild token (3 ∷ 0 ∷ [])) ≡ true)
    × (checked (spoilt counts root child grandchild token (4 ∷ 0 ∷ [])) ≡ only 5)
    -- a name that is not UTF-8
    × (checked (spoilt counts root child grandchild token (1 ∷ 1 ∷ [])) ≡ only 6)
    × (well_formed_file (spoilt counts root child grandchild token (1 ∷ 1 ∷ [])) ≡ false)
unfolding ascii join word_at word_bytes sum_from first_faulty check_from pieces_from sequence_of after_lead lead_of tails
formed = (refl, refl, refl, refl, refl, refl, refl, refl, refl, refl, refl, refl, refl, refl, refl, refl, refl, refl, refl, refl, refl)

-- each check by itself says which row fails first
abbrev spoilt_twice : List ℕ
spoilt_twice = spoilt counts root (7 ∷ 1 ∷ []) (7 ∷ 2 ∷ []) (9 ∷ 0 ∷ 0 ∷ []) (4 ∷ 0 ∷ [])

faulty_rows :
    (faulty_parent (counts_in spoilt_twice) spoilt_twice ≡ Some 1)
    × (counts_sum (counts_in spoilt_twice) spoilt_twice ≡ false)
    × (faulty_token (counts_in spoilt_twice) spoilt_twice ≡ Some 1)
    × (faulty_name (counts_in spoilt_twice) spoilt_twice ≡ Some 0)
    × (faulty_text (counts_in spoilt_twice) spoilt_twice ≡ None)
unfolding join word_at word_bytes sum_from first_faulty check_from pieces_from
faulty_rows = (refl, refl, refl, refl, refl)

-- Signatures. The names: 0 a member, 1 a class, 2 another class, 3 a method's descriptor.
abbrev texts : ℕ → List ℕ
texts n = get_or (ascii "run" ∷ ascii "Lx;" ∷ ascii "Ly;" ∷ ascii "(I)V" ∷ []) n []

abbrev run : Token
run = MemberName 0 0

abbrev class : Token
class = Descriptor 1 3

abbrev class₂ : Token
class₂ = Descriptor 2 3

abbrev method : Token
method = Descriptor 3 1

abbrev line : Token
line = SourceLine 1 1

abbrev signed : List Token → Option NodeSignature
signed ts = node_signature texts ts

signatures :
    -- the class given
    (signed (run ∷ method ∷ []) ≡ Some (member_named 0 1 Given))
    × (signed (line ∷ run ∷ line ∷ class ∷ method ∷ []) ≡ Some (member_named 1 3 Given))
    -- an owner by a descriptor: the nearest, by its raw name; one that starts `(` is passed over
    × (signed (class ∷ run ∷ method ∷ []) ≡ Some (member_named 1 2 (At 0)))
    × (signed (class ∷ class₂ ∷ line ∷ run ∷ class ∷ []) ≡ Some (member_named 3 4 (At 1)))
    × (signed (class ∷ method ∷ run ∷ class₂ ∷ []) ≡ Some (member_named 2 3 (At 0)))
    × (signed (method ∷ run ∷ class ∷ []) ≡ Some (member_named 1 2 Given))
    -- the first member name counts, and a descriptor before it is none after it
    × (signed (run ∷ class ∷ run ∷ method ∷ []) ≡ Some (member_named 0 1 Given))
    × (signed (class ∷ run ∷ []) ≡ None)
    × (signed (class ∷ method ∷ line ∷ Other 0 1 ∷ []) ≡ None)
    × (signed [] ≡ None)
    -- "Starting `(` means method"
    × (names_method texts method ≡ true)
    × (names_method texts class ≡ false)
    -- by numbers of tokens in the file
    × (signature_from 7 (signed (class ∷ run ∷ method ∷ [])) ≡ Some (member_named 8 9 (At 7)))
unfolding ascii first_token last_token
signatures = (refl, refl, refl, refl, refl, refl, refl, refl, refl, refl, refl, refl, refl)
