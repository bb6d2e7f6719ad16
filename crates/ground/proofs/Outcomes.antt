-- What a promise says of an answer, and that it leaves one outcome. Assumes nothing.
use mathlib.Core.Path.{◌≡◌, sym, ◌∙◌, ap}
use mathlib.Core.List.{List}
use Prim.Native.Nat.{ℕ}
use Rattle.ground.specs.Outcome.{OneOutcome}

-- an answer that is the rule's has the rule's numbers
module _ {A : Type 0} (numbers : A → List ℕ) {r a : A} where
  pub with_numbers : r ≡ a → (r ≡ a) × (numbers r ≡ numbers a)
  with_numbers e = (e, ap numbers e)

  pub with_output : {o w : List ℕ} → r ≡ a → o ≡ w → (r ≡ a) × (o ≡ w) × (numbers r ≡ numbers a)
  with_output e f = (e, f, ap numbers e)

-- an equation with a function of what came in is met by one value, whatever more is said of it
module _ {A : Type 0} (v : A) where
  pub one_value : OneOutcome (λ r. r ≡ v)
  one_value a b p q = p ∙ sym q

  pub one_value_more : (P : A → Type 0) → OneOutcome (λ r. (r ≡ v) × P r)
  one_value_more P a b p q = p.0 ∙ sym q.0

pub same_pair : {A B : Type 0} {a c : A} {b d : B} → a ≡ c → b ≡ d → ◌≡◌ {A = A × B} (a, b) (c, d)
same_pair e f = rw (e, f)
