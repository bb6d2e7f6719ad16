-- A part of a list, and writing into it at a place.
use Rattle.std.specs.Prelude.{List, ◌++◌, ℕ, ◌+◌, ◌-◌, length, take, drop}

-- what of `s` stands from the place `a` on, up to the place `e`
abbrev pub between : {A : Type 0} → List A → ℕ → ℕ → List A
between s a e = take (e - a) (drop a s)

-- `d` with `s` written over it from the place `at` on
unfoldable pub put : {A : Type 0} → List A → ℕ → List A → List A
put d at s = take at d ++ (s ++ drop (at + length s) d)
