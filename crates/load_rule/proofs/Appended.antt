-- Rows and pool of classes and members, one more at the end. Assumes nothing.
use mathlib.Core.Path.{◌≡◌, refl, sym, ◌∙◌, ap}
use mathlib.Core.List.{List, [], ◌∷◌, ◌++◌, map}
use Prim.Native.Nat.{ℕ, suc, ◌+◌}
use native.Mathlib.Nat.{add_assoc, add-zero}
use lib.ListN.{length, length-append}
use Rattle.ground.specs.Join.{join}
use Rattle.load_rule.specs.Laid.{rows_from}

-- Rows.
module _ {A : Type 0} (row : ℕ → A → List ℕ) (text : A → List ℕ) where
  pub rows_length : (p : ℕ) (xs : List A) → length (rows_from row text p xs) ≡ length xs
  unfolding rows_from
  rows_length p [] = refl
  rows_length p (x ∷ xs) = ap suc (rows_length (p + length (text x)) xs)

  pub rows_more : (p : ℕ) (xs : List A) (x : A) →
      rows_from row text p (xs ++ (x ∷ [])) ≡ rows_from row text p xs ++ (row (p + length (join (map text xs))) x ∷ [])
  unfolding rows_from join
  rows_more p [] x = ap (λ n. row n x ∷ []) (sym (add-zero p))
  rows_more p (y ∷ xs) x =
      ap (λ l. row p y ∷ l) (rows_more (p + length (text y)) xs x)
      ∙ ap (λ n. row p y ∷ (rows_from row text (p + length (text y)) xs ++ (row n x ∷ [])))
      (add_assoc p (length (text y)) (length (join (map text xs))) ∙ ap (λ n. p + n) (sym (length-append (text y) (join (map text xs)))))
