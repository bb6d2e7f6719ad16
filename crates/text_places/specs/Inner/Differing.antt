-- Blocks of two texts that differ.
use Rattle.std.specs.Prelude.{Bool, true, false, List, ℕ, zero, suc, ◌+◌, eqb, get_or}
use Rattle.ground.specs.Choice.{pick}

-- one of so many bytes from a place on is another one
unfoldable pub differs : List ℕ → List ℕ → ℕ → ℕ → Bool
differs s t at zero = false
differs s t at (suc n) = pick (eqb (get_or s (at + n) 0) (get_or t (at + n) 0)) (differs s t at n) true
