-- Lines: document 01 "Text and lines".
use Rattle.std.specs.Prelude.{◌≡◌, List, [], ◌∷◌, map, ℕ, suc, ◌≤◌, ◌<◌, eqb, length, take, drop}
use Rattle.ground.specs.Choice.{pick, both}
use Rattle.ground.specs.Put.{between}

-- a byte in front of the first line of what follows; where nothing follows it is a line of its own
abbrev pub onto : ℕ → List (List ℕ) → List (List ℕ)
onto b [] = (b ∷ []) ∷ []
onto b (l ∷ ls) = (b ∷ l) ∷ ls

-- "Lines end at LF; a final LF opens no further line"
unfoldable pub raw_lines : List ℕ → List (List ℕ)
raw_lines [] = []
raw_lines (b ∷ s) = pick (eqb b 0x0A) ([] ∷ raw_lines s) (onto b (raw_lines s))

-- the length of a line without "all CR at a line's end"
unfoldable pub cr_end : List ℕ → ℕ
cr_end [] = 0
cr_end (b ∷ s) = pick (both (eqb (cr_end s) 0) (eqb b 0x0D)) 0 (suc (cr_end s))

abbrev pub without_cr : List ℕ → List ℕ
without_cr l = take (cr_end l) l

-- the lines of a text
abbrev pub lines : List ℕ → List (List ℕ)
lines s = map without_cr (raw_lines s)

-- What `next_line` answers (the law `line_split`): the line at the place `at` runs from `a` to `e`, and all lines from `at` on are it and
-- those from `n` on. So going from `n` to `n` gives the lines of the text, each once. No rule cites it.
pub record Taken (s : List ℕ) (at a e n : ℕ) : Type 0 where
  pub order : a ≤ e
  pub ends : e ≤ length s
  pub past : at < n
  pub inside : n ≤ length s
  pub split : lines (drop at s) ≡ between s a e ∷ lines (drop n s)
