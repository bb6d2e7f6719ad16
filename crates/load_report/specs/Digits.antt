-- A number in decimal digits, in ASCII, with no zeros in front.
use Rattle.std.specs.Prelude.{List, [], ◌∷◌, ◌++◌, ℕ, zero, suc, ◌+◌, ◌/◌, ◌%◌, leb}
use Rattle.ground.specs.Choice.{pick}

-- at most so many digits
unfoldable pub decimal_from : ℕ → ℕ → List ℕ
decimal_from zero n = []
decimal_from (suc k) n =
    let last = 48 + n % 10 in
    pick (leb n 9) (last ∷ []) (decimal_from k (n / 10) ++ (last ∷ []))

-- ten digits are enough for 32 bits
abbrev pub decimal : ℕ → List ℕ
decimal n = decimal_from 10 n
