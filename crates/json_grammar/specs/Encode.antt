-- The octets of a code point in UTF-8: RFC 3629, section 3, the table and the steps below it.
use Rattle.std.specs.Prelude.{List, [], ◌∷◌, ℕ, ◌+◌, ◌/◌, ◌%◌, ltb}
use Rattle.ground.specs.Choice.{pick}

-- the three forms of several octets: the high bits behind the lead octet's mark, then six bits behind each 80
abbrev pub two_octets : ℕ → List ℕ
two_octets c = (0xC0 + c / 64) ∷ (0x80 + c % 64) ∷ []

abbrev pub three_octets : ℕ → List ℕ
three_octets c = (0xE0 + c / 4096) ∷ (0x80 + c / 64 % 64) ∷ (0x80 + c % 64) ∷ []

abbrev pub four_octets : ℕ → List ℕ
four_octets c = (0xF0 + c / 262144) ∷ (0x80 + c / 4096 % 64) ∷ (0x80 + c / 64 % 64) ∷ (0x80 + c % 64) ∷ []

unfoldable pub utf8 : ℕ → List ℕ
utf8 c =
    pick (ltb c 0x80) (c ∷ []) (pick (ltb c 0x800) (two_octets c) (pick (ltb c 0x10000) (three_octets c) (four_octets c)))
