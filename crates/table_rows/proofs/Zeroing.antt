-- Copies of a row. Assumes nothing.
use mathlib.Core.Path.{◌≡◌, refl}
use mathlib.Core.List.{List, [], ◌∷◌}
use Prim.Native.Nat.{ℕ}
use Rattle.std.specs.List.{AllZip}

-- each number is copied, so the row is
pub row_copied : (xs ys : List ℕ) → AllZip (λ x y. y ≡ x) xs ys → ys ≡ xs
row_copied [] [] p = refl
row_copied [] (y ∷ ys) p = absurd p
row_copied (x ∷ xs) [] p = absurd p
row_copied (x ∷ xs) (y ∷ ys) p = let a = p.0 in let b = row_copied xs ys p.1 in rw (a, b)
