-- Worked examples of loading, computed from the rules.
use Rattle.std.specs.Prelude.{◌≡◌, refl, [], ◌∷◌, Result, Err}
use Prim.Native.String.{String}
use Rattle.ground.specs.Ascii.{ascii}
use Rattle.text_places.specs.Places.{first_from, last_from, same}
use Rattle.text_places.specs.Lines.{raw_lines, cr_end}
use Rattle.text_utf8.specs.Utf8.{lead_of, tails, after_lead, sequence_of, pieces_from, check_from}
use Rattle.text_white.specs.White.{white_ranges, in_ranges, is_white}
use Rattle.text_white.specs.Trim.{run_of, all_white, trim_end}
use Rattle.number.specs.Numbers.{digits_from, plain, number_of}
use Rattle.line_parts.specs.Arguments.{comma_parts, filled}
use Rattle.descriptor.specs.Types.{base_end, bracket_count}
use Rattle.ground.specs.Join.{join}
use Rattle.table_rows.specs.Classes.{shown}
use Rattle.descriptor.specs.Pieces.{parts_from}
use Rattle.load_rule.specs.Comments.{residual_in}
use Rattle.load_rule.specs.Fates.{fates_from, faults_from, fault_at}
use Rattle.load_rule.specs.Classes.{classes_of}
use Rattle.load_rule.specs.Members.{entries_from}
use Rattle.load_rule.specs.Loading.{Lent, lent, answer_of, lines_str, load_numbers, class_rows_of, member_rows_of, pool_of}
use Rattle.load_rule.specs.Laid.{rows_from}
use Rattle.load_rule.specs.declared.Loaded.{Loaded}
use Rattle.load_rule.specs.declared.LoadError.{LoadError}
use Rattle.load_rule.specs.declared.LoadError.TheVariants.{Faulty, NoClasses, FewClassRows, FewMemberRows, ShortPool}

-- the answer for a text, where so much is lent
abbrev loads : String → Lent → Result Loaded LoadError
loads s n = answer_of (ascii s) (lines_str (ascii s)) n

abbrev small : String
small = "a.Main -> x:\n  int n -> b\n  1:3:void run(a.Main):10:12 -> c\n"

examples :
    (loads "" (lent 9 9 99) ≡ Err NoClasses)
    × (loads "a -> b" (lent 9 9 99) ≡ Err (Faulty (fault_at 3 1)))
    × (loads " int n -> b" (lent 9 9 99) ≡ Err (Faulty (fault_at 4 1)))
    × (loads " int n b" (lent 9 9 99) ≡ Err (Faulty (fault_at 4 1)))
    × (loads "a -> b:\n\n int n b" (lent 9 9 99) ≡ Err (Faulty (fault_at 5 3)))
    -- number, place, length, lines, blank, applied, idle, class, field, method, short, names: a second part that does not read
    × (load_numbers (loads "a -> b:\n int f():7:x -> c" (lent 9 9 99)) ≡ 0 ∷ 0 ∷ 0 ∷ 2 ∷ 0 ∷ 0 ∷ 0 ∷ 1 ∷ 0 ∷ 1 ∷ 1 ∷ 14 ∷ [])
    × (load_numbers (loads small (lent 1 2 32)) ≡ 0 ∷ 0 ∷ 0 ∷ 3 ∷ 0 ∷ 0 ∷ 0 ∷ 1 ∷ 1 ∷ 1 ∷ 0 ∷ 32 ∷ [])
    × (loads small (lent 0 0 0) ≡ Err FewClassRows)
    × (loads small (lent 1 1 0) ≡ Err FewMemberRows)
    × (loads small (lent 1 2 31) ≡ Err ShortPool)
    × (pool_of (lines_str (ascii small)) ≡ ascii "Lx;La/Main;bInc(Lx;)VrunLa/Main;")
    × (class_rows_of (lines_str (ascii small)) ≡ (0 ∷ 3 ∷ 3 ∷ 8 ∷ []) ∷ [])
    × (member_rows_of (lines_str (ascii small))
    ≡ (0 ∷ 0 ∷ 11 ∷ 1 ∷ 12 ∷ 1 ∷ 13 ∷ 1 ∷ 0 ∷ 0 ∷ 0 ∷ 0 ∷ 0 ∷ 0 ∷ 0 ∷ [])
    ∷ (1 ∷ 0 ∷ 14 ∷ 1 ∷ 15 ∷ 6 ∷ 21 ∷ 3 ∷ 24 ∷ 8 ∷ 2 ∷ 1 ∷ 3 ∷ 10 ∷ 12 ∷ [])
    ∷ [])
unfolding ascii raw_lines cr_end first_from last_from digits_from plain number_of run_of trim_end all_white pieces_from sequence_of after_lead lead_of tails is_white in_ranges white_ranges comma_parts filled check_from same base_end bracket_count parts_from join shown residual_in fates_from faults_from classes_of rows_from entries_from
examples = (refl, refl, refl, refl, refl, refl, refl, refl, refl, refl, refl, refl, refl)
