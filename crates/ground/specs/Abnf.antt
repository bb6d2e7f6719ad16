-- ABNF (RFC 5234) as plain statements about texts: a rule of a grammar is the statement that a text is of its kind. Lines of an RFC's
-- grammar are written in it one to one.
use Rattle.std.specs.Prelude.{◌≡◌, true, List, [], ◌∷◌, ◌++◌, ℕ}
use Rattle.ground.specs.Choice.{within}

-- a kind of text
abbrev pub Kind : Type 1
Kind = List ℕ → Type 0

-- %xLL-HH: one octet of a range
pub data Octet (low high : ℕ) : List ℕ → Type 0 where
  octet : (x : ℕ) → within low high x ≡ true → Octet low high (x ∷ [])

-- A B: one after the other
pub data ◌⊹◌ (A B : List ℕ → Type 0) : List ℕ → Type 0 where
  ◌⨾◌ : {a b : List ℕ} → A a → B b → (A ⊹ B) (a ++ b)

-- A / B: either
pub data ◌∣◌ (A B : List ℕ → Type 0) : List ℕ → Type 0 where
  left : {a : List ℕ} → A a → (A ∣ B) a
  right : {a : List ℕ} → B a → (A ∣ B) a

-- [ A ]: one or none
pub data Opt (A : List ℕ → Type 0) : List ℕ → Type 0 where
  absent : Opt A []
  present : {a : List ℕ} → A a → Opt A a

-- %xAA.BB.CC: these octets
pub data Exactly (w : List ℕ) : List ℕ → Type 0 where
  exactly : Exactly w w

-- *A: any number
pub data Star (A : List ℕ → Type 0) : List ℕ → Type 0 where
  none : Star A []
  more : {a b : List ℕ} → A a → Star A b → Star A (a ++ b)

infixr 40 ◌⊹◌
infixr 40 ◌⨾◌
infixr 30 ◌∣◌
