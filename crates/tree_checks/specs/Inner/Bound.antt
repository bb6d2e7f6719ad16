-- What the numbers of a token are held to.
use Rattle.std.specs.Prelude.{Bool, List, [], ◌∷◌, ℕ, leb, ltb, get_or}
use Rattle.ground.specs.Choice.{both}

-- a kind with names: both are below the number of names; of another any number will do
abbrev pub kind_bounds : ℕ → List ℕ
kind_bounds names = 4294967296 ∷ names ∷ names ∷ 4294967296 ∷ []

-- a kind that there is, and both numbers below its bound
abbrev pub fine_by : List ℕ → ℕ → ℕ → ℕ → Bool
fine_by bounds kind a b = both (leb kind 3) (both (ltb a (get_or bounds kind 0)) (ltb b (get_or bounds kind 0)))
