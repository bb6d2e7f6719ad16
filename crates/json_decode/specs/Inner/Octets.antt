-- The octets of a string in a slice: that they fit, and that they stand at a place.
use Rattle.std.specs.Prelude.{◌≡◌, Bool, true, false, List, [], ◌∷◌, ℕ, ◌+◌, ◌≤◌, eqb, length}
use Rattle.ground.specs.Choice.{both}
use Rattle.json_grammar.specs.Reader.{Out, got}

-- there is a string, and what it stands for fits into a room of `n` bytes at the place `at`
pub record Fitting (o : Out (List ℕ)) (at n : ℕ) : Type 0 where
  pub value : List ℕ
  pub rest : List ℕ
  pub reads : o ≡ got value rest
  pub fits : at + length value ≤ n

-- the bytes `v` stand at the head
unfoldable pub heads : List ℕ → List ℕ → Bool
heads [] l = true
heads (x ∷ v) [] = false
heads (x ∷ v) (y ∷ l) = both (eqb x y) (heads v l)
