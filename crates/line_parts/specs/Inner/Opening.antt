-- What a caller tells of a left side that has a `(`: the rule of a method looks for it by itself.
use Rattle.std.specs.Prelude.{◌≡◌, List, ℕ, Some}
use Rattle.text_places.specs.Places.{first_where, starts}

-- its first `(` stands at the place `i`
abbrev pub Opens : List ℕ → ℕ → Type 0
Opens left i = first_where (starts 0x28) left ≡ Some i
