-- Document 01 "Text and lines": "Arguments split at commas, trimmed, blank ones dropped."
use Rattle.std.specs.Prelude.{◌≡◌, List, [], ◌∷◌, ℕ, ◌≤◌, ◌<◌, eqb, length, drop}
use Rattle.ground.specs.Choice.{pick}
use Rattle.ground.specs.Put.{between}
use Rattle.text_places.specs.Lines.{onto}
use Rattle.text_white.specs.Trim.{trim_both}
use Rattle.text_places.specs.Spans.{is_empty, part_of}

-- "split at commas"
unfoldable pub comma_parts : List ℕ → List (List ℕ)
comma_parts [] = [] ∷ []
comma_parts (x ∷ s) = pick (eqb x 0x2C) ([] ∷ comma_parts s) (onto x (comma_parts s))

-- "trimmed, blank ones dropped"
unfoldable pub filled : List (List ℕ) → List (List ℕ)
filled [] = []
filled (p ∷ ps) = pick (is_empty (trim_both p)) (filled ps) (part_of p (trim_both p) ∷ filled ps)

-- the arguments in the text between the parentheses
abbrev pub arguments_of : List ℕ → List (List ℕ)
arguments_of s = filled (comma_parts s)

-- What `next_argument` answers (the law `arguments_split`): the first argument from the place `at` on runs from `a` to `e`, and the others
-- are those from `n` on. No rule cites it.
pub record Splits (s : List ℕ) (at a e n : ℕ) : Type 0 where
  pub order : a ≤ e
  pub ends : e ≤ n
  pub past : at < n
  pub within : n ≤ length s
  pub split : arguments_of (drop at s) ≡ between s a e ∷ arguments_of (drop n s)
