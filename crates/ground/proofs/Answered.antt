-- What two answers hold is the same where the answers are. `cc` sees that they hold the same record; its fields these laws give.
use Rattle.std.specs.Prelude.{Option, Result, Some, None, Ok, Err}
use mathlib.Core.Path.{◌≡◌, ◌∙◌, ap}

module _ {A B : Type 0} (f : A → B) {x y : A} where
  pub some_part : Some x ≡ Some y → f x ≡ f y
  some_part e = ap f (let same : x ≡ y = cc in same)

  pub ok_part : {E : Type 0} → ◌≡◌ {A = Result A E} (Ok x) (Ok y) → f x ≡ f y
  ok_part e = ap f (let same : x ≡ y = cc in same)

  pub err_part : {T : Type 0} → ◌≡◌ {A = Result T A} (Err x) (Err y) → f x ≡ f y
  err_part e = ap f (let same : x ≡ y = cc in same)

-- An answer that `?` hands on.
pub none_on : {A : Type 0} {r x : Option A} → r ≡ None → None ≡ x → r ≡ x
none_on e f = e ∙ f
