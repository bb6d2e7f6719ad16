-- Document 01 "Method": "A number is an optional `+` and at least one digit, up to 4294967295".
use Rattle.std.specs.Prelude.{List, [], ◌∷◌, ℕ, ◌+◌, ◌*◌, ◌-◌, eqb, leb, Option, Some, None}
use Rattle.ground.specs.Choice.{pick, within}

-- the digits up to the end of a text, after digits of the value `v`
unfoldable pub digits_from : ℕ → List ℕ → Option ℕ
digits_from v [] = pick (leb v 4294967295) (Some v) None
digits_from v (x ∷ s) =
    let more = digits_from (v * 10 + (x - 0x30)) s in
    pick (within 0x30 0x39 x) more None

-- "at least one digit"
unfoldable pub plain : List ℕ → Option ℕ
plain [] = None
plain (x ∷ s) = digits_from 0 (x ∷ s)

-- "an optional `+`"
unfoldable pub number_of : List ℕ → Option ℕ
number_of [] = None
number_of (x ∷ s) = pick (eqb x 0x2B) (plain s) (plain (x ∷ s))
