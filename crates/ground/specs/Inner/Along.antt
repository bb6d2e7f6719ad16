-- A stretch of a text all of whose bytes are of a kind.
use Rattle.std.specs.Prelude.{List, ℕ, ◌≤◌, ◌<◌, length, get_or}

-- every byte from one place up to another is a `P`
pub record Along (P : ℕ → Type 0) (s : List ℕ) («from» to : ℕ) : Type 0 where
  pub goes : «from» ≤ to
  pub inside : to ≤ length s
  pub each : (i : ℕ) → «from» ≤ i → i < to → P (get_or s i 0)
