-- Document 01 "Rows and names": "One row per line, in text order." Rows whose texts stand in the pool one after the other.
use Rattle.std.specs.Prelude.{List, [], ◌∷◌, ℕ, ◌+◌, length}

-- `row p x` is the row of `x` where its texts, `text x`, stand at the place `p`
unfoldable pub rows_from : {A : Type 0} → (ℕ → A → List ℕ) → (A → List ℕ) → ℕ → List A → List (List ℕ)
rows_from row text p [] = []
rows_from row text p (x ∷ xs) = row p x ∷ rows_from row text (p + length (text x)) xs
