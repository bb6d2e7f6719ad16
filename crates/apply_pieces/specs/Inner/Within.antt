-- The next class piece of a text, looked for up to a place.
use Rattle.std.specs.Prelude.{◌≡◌, List, ℕ, ◌-◌, ◌≤◌, ◌<◌, length, get_or}
use Rattle.text_places.specs.Inner.Blocks.{Without}
use Rattle.apply_pieces.specs.declared.within.Within.{Within}
use Rattle.apply_pieces.specs.declared.within.Within.TheVariants.{Closed, Open, Nowhere}

-- `b` stands at the place `i`, and nowhere from the place `a` up to it
pub record FirstAt (b : ℕ) (text : List ℕ) (a i : ℕ) : Type 0 where
  pub before : Without b text a i
  pub inside : i < length text
  pub there : get_or text i 0 ≡ b

-- no `L` from `from` up to `start`, one there, and the first `;` behind it right before `end`
pub record ClosedAt (text : List ℕ) («from» stop start «end» : ℕ) : Type 0 where
  pub plain : FirstAt 0x4C text «from» start
  pub some : start < «end»
  pub closes : FirstAt 0x3B text start («end» - 1)
  pub inside : «end» ≤ stop

-- an `L`, and no `;` up to `stop`
pub record OpenAt (text : List ℕ) (start stop : ℕ) : Type 0 where
  pub there : get_or text start 0 ≡ 0x4C
  pub some : start < stop
  pub unclosed : Without 0x3B text start stop

-- the first `L` from `from` on is such a one
pub record OpenFrom (text : List ℕ) («from» start stop : ℕ) : Type 0 where
  pub plain : FirstAt 0x4C text «from» start
  pub unclosed : OpenAt text start stop

abbrev pub WithinBy : Within → List ℕ → ℕ → ℕ → Type 0
WithinBy (Closed start «end») text «from» stop = ClosedAt text «from» stop start «end»
WithinBy (Open start) text «from» stop = OpenFrom text «from» start stop
WithinBy Nowhere text «from» stop = Without 0x4C text «from» stop
