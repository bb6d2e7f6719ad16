-- The answers of the descriptors' functions as numbers.
use Rattle.std.specs.Prelude.{◌≡◌, Bool, true, false, not, List, [], ◌∷◌, ℕ, eqb, ltb, length, Result, Ok, Err}
use Rattle.ground.specs.Choice.{either}
use Rattle.descriptor.specs.declared.types.Base.{Base}
use Rattle.descriptor.specs.declared.types.Base.TheVariants.{Letter, Kept, Named}
use Rattle.descriptor.specs.declared.types.TypeShape.{TypeShape}
use Rattle.ground.specs.Put.{between}
use Rattle.descriptor.specs.Signatures.{raw_signature}
use Rattle.table_pool.specs.Inner.Wrote.{WroteBy}
use Rattle.table_pool.specs.declared.write.NoRoom.{NoRoom}

abbrev pub wrote_numbers : Result ℕ NoRoom → List ℕ
wrote_numbers (Ok q) = 1 ∷ q ∷ []
wrote_numbers (Err _) = 0 ∷ 0 ∷ []

-- what the base of a type is, and its letter if it is one of the nine words
abbrev pub base_number : Base → ℕ
base_number (Letter x) = 0
base_number Kept = 1
base_number Named = 2

abbrev pub base_letter : Base → ℕ
base_letter (Letter x) = x
base_letter Kept = 0
base_letter Named = 0

abbrev pub shape_numbers : TypeShape → List ℕ
shape_numbers t = t.brackets ∷ t.start ∷ t.«end» ∷ base_number t.base ∷ base_letter t.base ∷ []

-- the numbers are those of an answer that says so of the room
pub record Said (numbers d : List ℕ) (at : ℕ) (b d₁ : List ℕ) : Type 0 where
  pub answer : Result ℕ NoRoom
  pub are : numbers ≡ wrote_numbers answer
  pub wrote : WroteBy answer d at b d₁

-- the same for a signature that stands in the room, where it does
abbrev pub SaidIf : Bool → List ℕ → List ℕ → ℕ → ℕ → ℕ → List ℕ → Type 0
SaidIf true numbers d at e method d₁ = (numbers ≡ 2 ∷ 0 ∷ []) × (d₁ ≡ d)
SaidIf false numbers d at e method d₁ = Said numbers d at (raw_signature (not (eqb method 0)) (between d at e)) d₁

abbrev pub SaidWithin : List ℕ → List ℕ → ℕ → ℕ → ℕ → List ℕ → Type 0
SaidWithin numbers d at e method d₁ = SaidIf (either (ltb e at) (ltb (length d) e)) numbers d at e method d₁
