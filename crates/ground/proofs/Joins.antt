-- Texts joined one after the other. Assumes nothing.
use mathlib.Core.Path.{◌≡◌, refl, sym, ◌∙◌, ap}
use mathlib.Core.List.{List, [], ◌∷◌, ◌++◌, map, append_assoc, append-nil}
use Prim.Native.Nat.{ℕ, ◌*◌}
use native.Mathlib.Nat.{mul-zero, mul-suc}
use native.Mathlib.Omega.{arith}
use lib.ListN.{length, length-append}
use Rattle.ground.specs.Join.{join}

module _ {A : Type 0} (f : A → List ℕ) where
  -- one more at the end
  pub join_more : (xs : List A) (x : A) → join (map f (xs ++ (x ∷ []))) ≡ join (map f xs) ++ f x
  unfolding join
  join_more [] x = append-nil (f x)
  join_more (y ∷ xs) x = ap (λ l. f y ++ l) (join_more xs x) ∙ sym (append_assoc (f y) (join (map f xs)) (f x))

  pub join_append : (xs ys : List A) → join (map f (xs ++ ys)) ≡ join (map f xs) ++ join (map f ys)
  unfolding join
  join_append [] ys = refl
  join_append (x ∷ xs) ys = ap (λ l. f x ++ l) (join_append xs ys) ∙ sym (append_assoc (f x) (join (map f xs)) (join (map f ys)))

  -- where each has so many bytes
  pub joined_length : (w : ℕ) → ((x : A) → length (f x) ≡ w) → (l : List A) → length (join (map f l)) ≡ w * length l
  unfolding join
  joined_length w size [] = sym (mul-zero w)
  joined_length w size (x ∷ l) = length-append (f x) (join (map f l)) ∙ rw (size x, joined_length w size l, mul-suc w (length l)) (omega arith)

-- lists that begin alike and go on alike
pub cons_same : {A : Type 0} {x y : A} {a b : List A} → x ≡ y → a ≡ b → x ∷ a ≡ y ∷ b
cons_same e f = cc
