-- The same over the entry points: a text that is loaded, a tree file to which it is applied, and what comes out.
use Rattle.std.specs.Prelude.{◌≡◌, refl, List, [], ◌∷◌, ℕ, take, Ok}
use Rattle.ground.specs.Ascii.{ascii}
use Rattle.ground.specs.Join.{join}
use Rattle.text_places.specs.Places.{first_from, last_from, same}
use Rattle.text_places.specs.Lines.{raw_lines, cr_end}
use Rattle.text_utf8.specs.Utf8.{lead_of, tails, after_lead, sequence_of, pieces_from, check_from}
use Rattle.text_white.specs.White.{white_ranges, in_ranges, is_white}
use Rattle.text_white.specs.Trim.{run_of, all_white, trim_end}
use Rattle.table_rows.specs.Tables.{Tables, tables}
use Rattle.table_rows.specs.Rows.{text}
use Rattle.table_rows.specs.Classes.{shown}
use Rattle.tables.specs.declared.check.Used.{Used}
use Rattle.tables.specs.Check.{all_of}
use Rattle.descriptor.specs.Pieces.{parts_from}
use Rattle.load_rule.specs.Fates.{fates_from, faults_from}
use Rattle.load_rule.specs.Classes.{classes_of}
use Rattle.load_rule.specs.Laid.{rows_from}
use Rattle.load_rule.specs.Members.{entries_from}
use Rattle.load_rule.specs.Loading.{Lent, lent, lines_parse, answer_of, load_numbers, classes_left, members_left, pool_left}
use Rattle.tree_rule.specs.declared.Token.TheVariants.{Descriptor}
use Rattle.tree_rule.specs.Words.{word_at, word_bytes, list_from, sum_from}
use Rattle.tree_rule.specs.Trees.{no_parent, descriptor, meaning_of}
use Rattle.tree_rule.specs.Files.{nodes_from, all_tokens, read_tree, written_tree}
use Rattle.tree_rule.specs.Checks.{first_faulty}
use Rattle.tree_rule.specs.Signatures.{first_token, last_token}
use Rattle.apply_rule.specs.Changes.{piece_known, changed_from, changed_nodes}
use Rattle.apply_rule.specs.Applying.{new_names, numbered, numbered_nodes, all_changed, name_rows, apply_answer, apply_output}

abbrev source : List ℕ
source = ascii "a.Main -> x:"

abbrev room : Lent
room = lent 1 0 11

-- one class row, no member row, 11 bytes of names
abbrev loaded : Tables
loaded =
    tables (classes_left source (lines_parse source) room) (members_left source (lines_parse source) room)
    (pool_left source (lines_parse source) room)

abbrev used : Used
used = record { classes = 1; members = 0; pool = 11 }

-- a tree file of one node with the descriptor `Lx;`, shown as itself
abbrev file : List ℕ
file =
    written_tree
    (record {
      nodes = record { parent = no_parent; tokens = Descriptor 0 0 ∷ [] } ∷ [];
      names = text 0 3 ∷ [];
      bytes = ascii "Lx;";
    })

-- number, place, length, lines, blank, applied, idle, class, field, method, short, names; then an output of 80 bytes, of which 63 are used
accepted :
    (load_numbers (answer_of source (lines_parse source) room) ≡ 0 ∷ 0 ∷ 0 ∷ 1 ∷ 0 ∷ 0 ∷ 0 ∷ 1 ∷ 0 ∷ 0 ∷ 0 ∷ 11 ∷ [])
    × (apply_answer loaded used (ascii "Lx;") file 80 ≡ Ok 63)
    × (meaning_of (read_tree (take 63 (apply_output loaded used (ascii "Lx;") file 80))) ≡
    record { parent = no_parent; tokens = descriptor (ascii "Lx;") (ascii "La/Main;") ∷ [] } ∷ [])
unfolding ascii raw_lines cr_end first_from last_from check_from classes_of same parts_from piece_known join shown run_of trim_end all_white pieces_from
    sequence_of after_lead lead_of tails is_white in_ranges white_ranges all_of all_tokens first_token last_token changed_from changed_nodes new_names
    numbered numbered_nodes all_changed name_rows fates_from faults_from rows_from entries_from word_at word_bytes list_from sum_from nodes_from
    first_faulty
accepted = (refl, refl, refl)
