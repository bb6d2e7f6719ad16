-- A quoted text as its bytes, for worked examples. Only for ASCII: a character counts as one byte, its code point.
use Rattle.std.specs.Prelude.{List, ℕ}
use Prim.Native.Char.{code}
use Prim.Native.String.{String}

unfoldable pub ascii : String → List ℕ
ascii String.[] = List.[]
ascii (String.◌∷◌ c s) = List.◌∷◌ (code c) (ascii s)
