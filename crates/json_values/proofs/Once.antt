-- The promises about runs are no plain equations, and leave one answer all the same. Assumes nothing.
use mathlib.Core.Path.{◌≡◌, sym, ◌∙◌}
use mathlib.Core.Bool.{Bool}
use mathlib.Core.List.{List}
use Prim.Native.Nat.{ℕ}
use Rattle.json_string.proofs.Once.{place_once}
use Rattle.json_values.specs.Inner.Runs.{Past}

pub past_once : (p : ℕ → Bool) (s : List ℕ) (start r q : ℕ) → Past p s start r → Past p s start q → r ≡ q
past_once p s start r q a b = place_once s r q a.inside b.inside (sym a.rest ∙ b.rest)
