-- A stretch of a text that does not hold a byte, and the mask of one that may.
use Rattle.std.specs.Prelude.{◌≡◌, Bool, List, ℕ, zero, suc, ◌+◌, ◌*◌, eqb, get_or}
use Rattle.ground.specs.Choice.{bit}
use Rattle.ground.specs.Inner.Along.{Along}

-- no byte from one place up to another is `b`
abbrev pub Without : ℕ → List ℕ → ℕ → ℕ → Type 0
Without b s «from» to = Along (λ x. x ≡ b → ⊥) s «from» to

-- a byte is `b`
abbrev pub is_byte : ℕ → ℕ → Bool
is_byte b x = eqb x b

-- the mask of so many bytes from a place on: a binary digit for each, the lowest for the first, which tells whether a test holds of it
unfoldable pub mask_of : (ℕ → Bool) → List ℕ → ℕ → ℕ → ℕ
mask_of p s at zero = 0
mask_of p s at (suc n) = mask_of p s (at + 1) n * 2 + bit (p (get_or s at 0))
