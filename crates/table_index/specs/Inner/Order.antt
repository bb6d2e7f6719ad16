-- How texts stand to each other.
use Rattle.std.specs.Prelude.{◌≡◌, Bool, true, false, List, [], ◌∷◌, ℕ, ◌+◌, ◌≤◌, ◌<◌, ltb, length, get_or, drop}
use Rattle.ground.specs.Choice.{pick}
use Rattle.table_pool.specs.Inner.Named.{slash_if}
use Rattle.std.specs.declared.cmp.Ordering.{Ordering}
use Rattle.std.specs.declared.cmp.Ordering.TheVariants.{Less, Equal, Greater}

-- the first byte that differs decides, and a text that ends first stands before
unfoldable pub compared : List ℕ → List ℕ → Ordering
compared [] [] = Equal
compared [] (y ∷ t) = Less
compared (x ∷ s) [] = Greater
compared (x ∷ s) (y ∷ t) =
    let later = compared s t in
    pick (ltb x y) Less (pick (ltb y x) Greater later)

abbrev pub not_after : Ordering → Bool
not_after Less = true
not_after Equal = true
not_after Greater = false

-- `a` stands at or before `b`
abbrev pub at_most : List ℕ → List ℕ → Bool
at_most a b = not_after (compared a b)

-- the first `i` bytes of two texts are alike, and what is left of both decides
pub record Weighing (a b : List ℕ) (i : ℕ) : Type 0 where
  pub in_first : i ≤ length a
  pub in_second : i ≤ length b
  pub decides : compared (drop i a) (drop i b) ≡ compared a b

-- the first `k` bytes of a name stand in a text from the place `shift` on, dots as slashes or as they are
pub record AlikeTo (text : List ℕ) (shift : ℕ) (name : List ℕ) (dots : Bool) (k : ℕ) : Type 0 where
  pub in_text : shift + k ≤ length text
  pub in_name : k ≤ length name
  pub each : (j : ℕ) → j < k → get_or text (shift + j) 0 ≡ slash_if dots (get_or name j 0)
