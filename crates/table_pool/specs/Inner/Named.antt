-- A class piece by the name in it.
use Rattle.std.specs.Prelude.{Bool, true, false, List, [], ◌∷◌, ◌++◌, map, ℕ}
use Rattle.table_pool.specs.Names.{slash}

-- dots as slashes, as in the descriptor of a class name, or as they are, as in a type that is kept.
abbrev pub slash_if : Bool → ℕ → ℕ
slash_if true x = slash x
slash_if false x = x

abbrev pub name_bytes : Bool → List ℕ → List ℕ
name_bytes dots s = map (slash_if dots) s

abbrev pub class_piece : Bool → List ℕ → List ℕ
class_piece dots s = 0x4C ∷ (name_bytes dots s ++ (0x3B ∷ []))
