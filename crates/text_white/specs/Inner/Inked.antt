-- Ink: bytes that alone tell that no white space stands there.
use Rattle.std.specs.Prelude.{◌≡◌, Bool, false, not, List, ℕ}
use Rattle.ground.specs.Choice.{within}
use Rattle.ground.specs.Inner.Along.{Along}

-- an ASCII character above the space
abbrev pub ink : ℕ → Bool
ink b = within 0x21 0x7F b

abbrev pub no_ink : ℕ → Bool
no_ink b = not (ink b)

-- every byte up to a place is ink
abbrev pub Inked : List ℕ → ℕ → Type 0
Inked s to = Along (λ x. no_ink x ≡ false) s 0 to
