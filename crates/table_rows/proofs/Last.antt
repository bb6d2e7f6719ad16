-- "The last class row with a given raw (or display) descriptor answers." Assumes nothing.
use mathlib.Core.Path.{◌≡◌}
use mathlib.Core.List.{List, [], ◌∷◌, ◌++◌}
use Rattle.ground.specs.Look.{known}
use Rattle.text_places.proofs.PlaceLaws.{same_refl}
use Rattle.table_rows.specs.Classes.{Pair, shown}

pub last_shown : (cs : List Pair) (c : Pair) → shown (cs ++ (c ∷ [])) c.raw ≡ known c.display
unfolding shown
last_shown [] c = rw (same_refl c.raw)
last_shown (d ∷ cs) c = rw (last_shown cs c)
