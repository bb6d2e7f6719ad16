-- A text of the pool, as the part that the code lends. Assumes nothing.
use mathlib.Core.Path.{◌≡◌, sym, ◌∙◌, ap}
use mathlib.Core.List.{List}
use mathlib.Core.Logic.{◌⊎◌, inl, inr}
use Prim.Native.Nat.{ℕ, ◌+◌, ◌-◌, ◌≤◌, ◌<◌, min}
use native.Mathlib.Omega.{arith}
use lib.ListN.{length, take, drop, length-drop, drop_of_length-le}
use lib.Seq.{take_all, drop-length}
use borrow.Author.Rules.{rules}
use Rattle.ground.specs.Put.{between}
use Rattle.ground.proofs.Cases.{le_or_lt}
use Rattle.table_rows.specs.declared.rows.Text.{Text}
use Rattle.tables.specs.Back.{text_in}

-- a list has no more than it has
module _ {A : Type 0} (s : List A) where
  take_some : (n : ℕ) → take (min n (length s)) s ≡ take n s
  take_some n = go (le_or_lt n (length s))
    where
      go : (n ≤ length s) ⊎ (length s < n) → take (min n (length s)) s ≡ take n s
      go (inl h) = let z : min n (length s) ≡ n = omega arith in rw z
      go (inr h) = let z : min n (length s) ≡ length s = omega arith in rw z (take_all (length s) s (omega arith) ∙ sym (take_all n s (omega arith)))

  drop_some : (n : ℕ) → drop (min n (length s)) s ≡ drop n s
  drop_some n = go (le_or_lt n (length s))
    where
      go : (n ≤ length s) ⊎ (length s < n) → drop (min n (length s)) s ≡ drop n s
      go (inl h) = let z : min n (length s) ≡ n = omega arith in rw z
      go (inr h) = let z : min n (length s) ≡ length s = omega arith in rw (z, drop-length s) (sym (drop_of_length-le s {i = n} (omega arith)))

module _ (pool : List ℕ) (t : Text) {a l : ℕ} (e : a ≡ min t.place (length pool)) (f : l ≡ min t.length (length pool - a)) where
  pub text_part : between pool a (a + l) ≡ text_in pool t
  text_part =
      let z : a + l - a ≡ min t.length (length (drop a pool)) = omega (arith, length-drop a pool) in
      rw z (take_some (drop a pool) t.length ∙ ap (take t.length) (ap (λ n. drop n pool) e ∙ drop_some pool t.place))

pub ruleset texting = (text_part, rules)
