-- Every row of the table of marked examples holds, by computing its rule. Assumes nothing.
use mathlib.Core.Path.{refl}
use Rattle.ground.specs.Ascii.{ascii}
use Rattle.text_places.specs.Places.{first_from, last_from, same}
use Rattle.text_places.specs.Lines.{raw_lines, cr_end}
use Rattle.text_utf8.specs.Utf8.{lead_of, tails, after_lead, sequence_of, pieces_from, check_from}
use Rattle.text_white.specs.White.{white_ranges, in_ranges, is_white}
use Rattle.text_white.specs.Trim.{run_of, all_white, trim_end}
use Rattle.number.specs.Numbers.{digits_from, plain, number_of}
use Rattle.descriptor.specs.Types.{base_end, bracket_count}
use Rattle.ground.specs.Join.{join}
use Rattle.table_rows.specs.Classes.{shown}
use Rattle.descriptor.specs.Pieces.{parts_from}
use Rattle.load_rule.specs.Fates.{fates_from, faults_from}
use Rattle.load_rule.specs.Classes.{classes_of}
use Rattle.apply_rule.specs.Changes.{piece_known}
use Rattle.meaning.specs.Marked.{AllHold, marked}

pub marked_hold : AllHold marked
unfolding ascii raw_lines cr_end first_from last_from check_from fates_from faults_from classes_of digits_from plain number_of same parts_from piece_known join shown base_end bracket_count run_of trim_end all_white pieces_from sequence_of after_lead lead_of tails is_white in_ranges white_ranges
marked_hold = ((λ n. refl), ((λ n. refl), ((λ n. refl), (refl, (refl, (refl, (refl, (refl, (refl, (refl, (refl, (refl, tt))))))))))))
