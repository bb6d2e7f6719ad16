-- What is asked for shown classes to turn back can be met, and each of it is needed: small mappings and trees, computed from the rules.
use Rattle.std.specs.Prelude.{◌≡◌, refl, Bool, true, false, List, [], ◌∷◌, ◌++◌, ℕ}
use Rattle.ground.specs.Ascii.{ascii}
use Rattle.ground.specs.Join.{join}
use Rattle.text_places.specs.Places.{first_from, last_from, same}
use Rattle.text_places.specs.Lines.{raw_lines, cr_end}
use Rattle.text_utf8.specs.Utf8.{lead_of, tails, after_lead, sequence_of, pieces_from, check_from}
use Rattle.text_white.specs.White.{white_ranges, in_ranges, is_white}
use Rattle.text_white.specs.Trim.{run_of, all_white, trim_end}
use Rattle.table_rows.specs.Rows.{text}
use Rattle.table_rows.specs.Classes.{shown}
use Rattle.tables.specs.Check.{all_of}
use Rattle.descriptor.specs.Pieces.{parts_from}
use Rattle.load_rule.specs.Classes.{classes_of}
use Rattle.load_rule.specs.Loading.{lines_parse}
use Rattle.name_rule.specs.Mappings.{mapping}
use Rattle.tree_rule.specs.declared.Token.TheVariants.{Descriptor}
use Rattle.tree_rule.specs.Trees.{no_parent, Tree, descriptor, meaning_of}
use Rattle.tree_rule.specs.Files.{all_tokens}
use Rattle.tree_rule.specs.Signatures.{first_token, last_token}
use Rattle.apply_rule.specs.Changes.{piece_known, changed_from, changed_nodes}
use Rattle.apply_rule.specs.Applying.{new_names, numbered, numbered_nodes, all_changed, name_rows, applied_tree}
use Rattle.meaning.specs.TurnedBack.{is_among, each_once, raws_once, displays_once, display_names, names_closed, shows_raw, names_unmistaken, of_tokens, turns_back}

-- a node with one descriptor, of which raw and display name are these
abbrev tree : List ℕ → List ℕ → Tree
tree raw display =
    record {
      nodes = record { parent = no_parent; tokens = Descriptor 0 1 ∷ [] } ∷ [];
      names = text 0 3 ∷ text 3 3 ∷ [];
      bytes = raw ++ display;
    }

abbrev applied : List (List ℕ) → Tree → Tree
applied ls t = applied_tree (mapping (classes_of ls) []) (ascii "Lx;") t

-- what is asked of lines and tree, in its order
abbrev asked : List (List ℕ) → Tree → List Bool
asked ls t =
    displays_once ls ∷ names_closed ls ∷ of_tokens shows_raw t ∷ of_tokens (names_unmistaken (classes_of ls)) t ∷ []

-- and what comes of it
abbrev comes_back : List (List ℕ) → Tree → Bool
comes_back ls t = of_tokens (turns_back (classes_of ls)) (applied ls t)

abbrev main : List (List ℕ)
main = lines_parse (ascii "a.Main -> x:")

-- all of it is met, and something is replaced
met :
    (asked main (tree (ascii "Lx;") (ascii "Lx;")) ≡ true ∷ true ∷ true ∷ true ∷ [])
    × (comes_back main (tree (ascii "Lx;") (ascii "Lx;")) ≡ true)
    × (meaning_of (applied main (tree (ascii "Lx;") (ascii "Lx;"))) ≡
    record { parent = no_parent; tokens = descriptor (ascii "Lx;") (ascii "La/Main;") ∷ [] } ∷ [])
unfolding ascii raw_lines cr_end first_from last_from check_from classes_of same parts_from piece_known join shown run_of trim_end all_white pieces_from
    sequence_of after_lead lead_of tails is_white in_ranges white_ranges all_of is_among each_once display_names all_tokens first_token last_token
    changed_from changed_nodes new_names numbered numbered_nodes all_changed name_rows
met = (refl, refl, refl)

-- two class lines with one display descriptor: `Lx;` shows as `La;`, which is turned back to `Ly;`
abbrev twice : List (List ℕ)
twice = lines_parse (ascii "a -> x:\na -> y:")

-- a `;` in a display class name: `Lx;` shows as `La;b;`, in which the class `La;` is unknown
abbrev semicolon : List (List ℕ)
semicolon = lines_parse (ascii "a;b -> x:")

-- Without one of the four, the others being met, a class is not turned back.
needed :
    (asked twice (tree (ascii "Lx;") (ascii "Lx;")) ≡ false ∷ true ∷ true ∷ true ∷ [])
    × (comes_back twice (tree (ascii "Lx;") (ascii "Lx;")) ≡ false)
    × (asked semicolon (tree (ascii "Lx;") (ascii "Lx;")) ≡ true ∷ false ∷ true ∷ true ∷ [])
    × (comes_back semicolon (tree (ascii "Lx;") (ascii "Lx;")) ≡ false)
    -- a display that is not the raw name, of a class that stays
    × (asked main (tree (ascii "Lz;") (ascii "Ly;")) ≡ true ∷ true ∷ false ∷ true ∷ [])
    × (comes_back main (tree (ascii "Lz;") (ascii "Ly;")) ≡ false)
    -- a class that is unknown as raw yet a display in the mapping
    × (asked (lines_parse (ascii "a -> x:")) (tree (ascii "La;") (ascii "La;")) ≡ true ∷ true ∷ true ∷ false ∷ [])
    × (comes_back (lines_parse (ascii "a -> x:")) (tree (ascii "La;") (ascii "La;")) ≡ false)
unfolding ascii raw_lines cr_end first_from last_from check_from classes_of same parts_from piece_known join shown run_of trim_end all_white pieces_from
    sequence_of after_lead lead_of tails is_white in_ranges white_ranges all_of is_among each_once display_names all_tokens first_token last_token
    changed_from changed_nodes new_names numbered numbered_nodes all_changed name_rows
needed = (refl, refl, refl, refl, refl, refl, refl, refl)

-- "no raw .. class descriptor on two class lines" is not needed: of two class lines with one raw descriptor the last shows it, and its
-- display descriptor is turned back to it.
abbrev overridden : List (List ℕ)
overridden = lines_parse (ascii "a -> x:\nb -> x:")

unneeded :
    (raws_once overridden ≡ false)
    × (asked overridden (tree (ascii "Lx;") (ascii "Lx;")) ≡ true ∷ true ∷ true ∷ true ∷ [])
    × (comes_back overridden (tree (ascii "Lx;") (ascii "Lx;")) ≡ true)
unfolding ascii raw_lines cr_end first_from last_from check_from classes_of same parts_from piece_known join shown run_of trim_end all_white pieces_from
    sequence_of after_lead lead_of tails is_white in_ranges white_ranges all_of is_among each_once display_names all_tokens first_token last_token
    changed_from changed_nodes new_names numbered numbered_nodes all_changed name_rows
unneeded = (refl, refl, refl)
