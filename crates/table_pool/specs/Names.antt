-- Document 01 "Descriptors": "A class name becomes `L`, the name with dots as slashes, `;`."
use Rattle.std.specs.Prelude.{List, [], ◌∷◌, ◌++◌, map, ℕ, eqb}
use Rattle.ground.specs.Choice.{pick}

abbrev pub slash : ℕ → ℕ
slash x = pick (eqb x 0x2E) 0x2F x

abbrev pub slashed : List ℕ → List ℕ
slashed s = map slash s

abbrev pub class_descriptor : List ℕ → List ℕ
class_descriptor name = 0x4C ∷ (slashed name ++ (0x3B ∷ []))
