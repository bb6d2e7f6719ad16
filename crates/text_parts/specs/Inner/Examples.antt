-- Worked examples of places and how far a text is UTF-8, computed.
use Rattle.std.specs.Prelude.{◌≡◌, refl, true, false, List, [], ◌∷◌, ℕ}
use Rattle.text_utf8.specs.Utf8.{lead_of, tails, after_lead, sequence_of, pieces_from, check_from}
use Rattle.text_parts.specs.Inner.Reach.{tails_up_to, tails_at, valid_to, ends_well}

-- `a`, U+3000, FF, `b`, five octets that only continue
abbrev some : List ℕ
some = 0x61 ∷ 0xE3 ∷ 0x80 ∷ 0x80 ∷ 0xFF ∷ 0x62 ∷ 0x80 ∷ 0x80 ∷ 0x80 ∷ 0x80 ∷ 0x80 ∷ []

examples :
    (tails_at some 0 ≡ 0)
    × (tails_at some 2 ≡ 2)
    × (tails_at some 6 ≡ 4)
    × (tails_at some 9 ≡ 2)
    × (tails_at some 11 ≡ 0)
    × (valid_to some 0 ≡ 4)
    × (valid_to some 1 ≡ 4)
    × (valid_to some 4 ≡ 4)
    × (valid_to some 5 ≡ 6)
    × (valid_to some 11 ≡ 11)
    × (ends_well some 4 4 ≡ true)
    × (ends_well some 4 1 ≡ true)
    × (ends_well some 4 2 ≡ false)
    × (ends_well some 4 5 ≡ false)
unfolding tails_up_to check_from pieces_from sequence_of after_lead lead_of tails
examples = (refl, refl, refl, refl, refl, refl, refl, refl, refl, refl, refl, refl, refl, refl)
