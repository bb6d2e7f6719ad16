-- Worked examples of comments that are applied, computed from the rules.
use Rattle.std.specs.Prelude.{◌≡◌, refl, List, [], ◌∷◌, ◌++◌, ℕ}
use Rattle.ground.specs.Ascii.{ascii}
use Rattle.text_places.specs.Places.{first_from, last_from, same}
use Rattle.text_places.specs.Lines.{raw_lines, cr_end}
use Rattle.text_utf8.specs.Utf8.{lead_of, tails, after_lead, sequence_of, pieces_from, check_from}
use Rattle.text_white.specs.White.{white_ranges, in_ranges, is_white}
use Rattle.text_white.specs.Trim.{run_of, all_white, trim_end}
use Rattle.number.specs.Numbers as numbers
use Rattle.line_parts.specs.Arguments.{comma_parts, filled}
use Rattle.json_grammar.specs.Encode.{utf8}
use Rattle.json_grammar.specs.Reader.{and_then, past_all, structural, past, short_escape, escape, piece_of, chars_from, string_of, past_word, flat_of, after_item, items_of, inside_of, enclosed_of, member_of, nested_of, value_of, members_of, last_of}
use Rattle.descriptor.specs.Types.{base_end, bracket_count}
use Rattle.ground.specs.Join.{join}
use Rattle.table_rows.specs.Classes.{shown}
use Rattle.descriptor.specs.Pieces.{parts_from}
use Rattle.load_rule.specs.Comments.{residual_in}
use Rattle.load_rule.specs.Fates.{fates_from, faults_from}
use Rattle.load_rule.specs.Classes.{classes_of}
use Rattle.load_rule.specs.Members.{entries_from}
use Rattle.load_rule.specs.Loading.{Lent, lent, answer_of, lines_str, load_numbers, pool_of}
use Rattle.load_rule.specs.Laid.{rows_from}

abbrev enough : Lent
enough = lent 9 9 999

-- a comment that gives the signature `s`, with its LF
abbrev residual : List ℕ → List ℕ
residual s = ascii "# {\"id\":\"com.android.tools.r8.residualsignature\",\"signature\":\"" ++ (s ++ ascii "\"}\n")

-- document 01's example
abbrev main : List ℕ
main = ascii "a.Main -> x:\n    int n -> b\n    1:3:void run(a.Main):10:12 -> c\n" ++ (residual (ascii "(Lx;)V") ++ ascii "\n")

-- two comments after a member: the later one counts
abbrev two : List ℕ
two = ascii "a -> x:\n int n -> b\n" ++ (residual (ascii "J") ++ residual (ascii "F"))

-- a comment after a class line is idle
abbrev late : List ℕ
late = ascii "a -> x:\n int n -> b\nc -> y:\n" ++ residual (ascii "J")

-- number, place, length, lines, blank, applied, idle, class, field, method, short, names
examples :
    (load_numbers (answer_of main (lines_str main) enough) ≡ 0 ∷ 0 ∷ 0 ∷ 5 ∷ 1 ∷ 1 ∷ 0 ∷ 1 ∷ 1 ∷ 1 ∷ 0 ∷ 32 ∷ [])
    × (load_numbers (answer_of two (lines_str two) enough) ≡ 0 ∷ 0 ∷ 0 ∷ 4 ∷ 0 ∷ 2 ∷ 0 ∷ 1 ∷ 1 ∷ 0 ∷ 0 ∷ 9 ∷ [])
    × (pool_of (lines_str two) ≡ ascii "Lx;La;bFn")
    × (load_numbers (answer_of late (lines_str late) enough) ≡ 0 ∷ 0 ∷ 0 ∷ 4 ∷ 0 ∷ 0 ∷ 1 ∷ 2 ∷ 1 ∷ 0 ∷ 0 ∷ 15 ∷ [])
    × (pool_of (lines_str late) ≡ ascii "Lx;La;Ly;Lc;bIn")
unfolding ascii raw_lines cr_end first_from last_from numbers.digits_from numbers.plain numbers.number_of run_of trim_end all_white pieces_from sequence_of after_lead lead_of tails is_white in_ranges white_ranges comma_parts filled check_from same base_end bracket_count parts_from join shown residual_in fates_from faults_from classes_of rows_from entries_from utf8 last_of and_then past_all structural past short_escape escape piece_of chars_from string_of past_word flat_of after_item items_of inside_of enclosed_of member_of nested_of value_of members_of
examples = (refl, refl, refl, refl, refl)
