-- Small examples, computed from the rules.
use Rattle.std.specs.Prelude.{◌≡◌, refl, [], ◌∷◌, Err}
use Rattle.text_utf8.specs.declared.sequence.Sequence.TheVariants.{Good, Bad}
use Rattle.text_utf8.specs.Utf8.{lead_of, tails, after_lead, sequence_of, pieces_from, check_from, check_of, broken}

-- the euro sign, U+20AC, and the first byte of a following letter
euro : sequence_of (0xE2 ∷ 0x82 ∷ 0xAC ∷ 0x61 ∷ []) ≡ Good 0x20AC 3
unfolding sequence_of after_lead lead_of tails
euro = refl

-- U+10FFFF is the last code point, and the next one is bad after its first byte
last_code : sequence_of (0xF4 ∷ 0x8F ∷ 0xBF ∷ 0xBF ∷ []) ≡ Good 0x10FFFF 4
unfolding sequence_of after_lead lead_of tails
last_code = refl

past_last_code : sequence_of (0xF4 ∷ 0x90 ∷ 0x80 ∷ 0x80 ∷ []) ≡ Bad 1
unfolding sequence_of after_lead lead_of tails
past_last_code = refl

-- three of four bytes, then one that does not fit; three of four bytes, then the end
three_of_four : sequence_of (0xF0 ∷ 0x9F ∷ 0x98 ∷ 0x61 ∷ []) ≡ Bad 3
unfolding sequence_of after_lead lead_of tails
three_of_four = refl

cut_short : check_of (0x61 ∷ 0xF0 ∷ 0x9F ∷ 0x98 ∷ []) ≡ Err (broken 1 0)
unfolding check_from pieces_from sequence_of after_lead lead_of tails
cut_short = refl

-- document 01, "Marked examples"
overlong : check_of (0xC0 ∷ 0x80 ∷ []) ≡ Err (broken 0 1)
unfolding check_from pieces_from sequence_of after_lead lead_of tails
overlong = refl

cut : check_of (0xE2 ∷ 0x82 ∷ []) ≡ Err (broken 0 0)
unfolding check_from pieces_from sequence_of after_lead lead_of tails
cut = refl

surrogate : check_of (0x61 ∷ 0xED ∷ 0xA0 ∷ 0x80 ∷ []) ≡ Err (broken 1 1)
unfolding check_from pieces_from sequence_of after_lead lead_of tails
surrogate = refl
