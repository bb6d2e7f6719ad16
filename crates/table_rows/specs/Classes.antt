-- Document 01 "Rows and names": the classes of a mapping, by their texts.
use Rattle.std.specs.Prelude.{List, [], ◌∷◌, map, ℕ}
use Rattle.ground.specs.Choice.{pick}
use Rattle.ground.specs.Look.{Look, known, unknown, or_look}
use Rattle.text_places.specs.Places.{same}

-- a class: its raw and its display descriptor
pub record Pair : Type 0 where
  pub raw : List ℕ
  pub display : List ℕ

abbrev pub pair : List ℕ → List ℕ → Pair
pair r d = record { raw = r; display = d }

-- "The last class row with a given raw (or display) descriptor answers.": what the raw descriptor `p` shows as
unfoldable pub shown : List Pair → List ℕ → Look
shown [] p = unknown
shown (c ∷ cs) p = or_look (shown cs p) (pick (same c.raw p) (known c.display) unknown)

abbrev pub swapped : Pair → Pair
swapped c = record { raw = c.display; display = c.raw }

-- and what the display descriptor `p` is turned back to
abbrev pub back : List Pair → List ℕ → Look
back cs p = shown (map swapped cs) p
