-- Small examples, computed from the rules.
use Rattle.std.specs.Prelude.{◌≡◌, refl, [], ◌∷◌, Some}
use Rattle.text_places.specs.Places.{last_from}
use Rattle.text_utf8.specs.Utf8.{lead_of, tails, after_lead, sequence_of, pieces_from}
use Rattle.text_white.specs.White.{white_ranges, in_ranges, is_white}
use Rattle.text_white.specs.Trim.{run_of, trim_start, after_marks, all_white, trim_end, last_white}

-- U+3000, `a`, U+0020, U+00A0
trims_start : trim_start (0xE3 ∷ 0x80 ∷ 0x80 ∷ 0x61 ∷ 0x20 ∷ 0xC2 ∷ 0xA0 ∷ []) ≡ 3
unfolding run_of pieces_from sequence_of after_lead lead_of tails is_white in_ranges white_ranges
trims_start = refl

trims_end : trim_end (0xE3 ∷ 0x80 ∷ 0x80 ∷ 0x61 ∷ 0x20 ∷ 0xC2 ∷ 0xA0 ∷ []) ≡ 4
unfolding trim_end all_white pieces_from sequence_of after_lead lead_of tails is_white in_ranges white_ranges
trims_end = refl

white_places : last_white (0xE3 ∷ 0x80 ∷ 0x80 ∷ 0x61 ∷ 0x20 ∷ 0xC2 ∷ 0xA0 ∷ []) ≡ Some 5
unfolding last_from sequence_of after_lead lead_of tails is_white in_ranges white_ranges
white_places = refl

marks : after_marks (0xEF ∷ 0xBB ∷ 0xBF ∷ 0xEF ∷ 0xBB ∷ 0xBF ∷ 0x61 ∷ []) ≡ 6
unfolding run_of pieces_from sequence_of after_lead lead_of tails
marks = refl
