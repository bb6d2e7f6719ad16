-- What `next_line` answers, step by step as the code goes. That it is a line of the rule is the law `line_split`.
use Rattle.std.specs.Prelude.{◌≡◌, List, [], ◌∷◌, ℕ, suc, ◌+◌, eqb, ltb, length, take, drop, Option, Some, None}
use Rattle.ground.specs.Choice.{pick}
use Rattle.text_places.specs.Lines.{cr_end}
use Rattle.text_places.specs.declared.lines.NextLine.{NextLine}

-- a line that runs from `a` to `e`, and the following one starts at `n`
abbrev pub taken_line : ℕ → ℕ → ℕ → NextLine
taken_line a e n = record { start = a; «end» = e; next = n }

-- how many bytes stand before the first LF, or in all where there is none
unfoldable pub to_lf : List ℕ → ℕ
to_lf [] = 0
to_lf (b ∷ s) =
    let more = suc (to_lf s) in
    pick (eqb b 0x0A) 0 more

-- the line at the head of `l`, which stands at the place `at`: its start, its end, and the start of the following one
abbrev pub line_from : ℕ → List ℕ → Option NextLine
line_from at [] = None
line_from at (b ∷ s) =
    let l : List ℕ = b ∷ s in
    Some (taken_line at (at + cr_end (take (to_lf l) l)) (at + to_lf l + pick (ltb (to_lf l) (length l)) 1 0))

-- the line that starts at the place `at` of a text
abbrev pub next_line : List ℕ → ℕ → Option NextLine
next_line s at = line_from at (drop at s)

-- the line at the place `at` ends somewhere, and the following one starts at `next`
pub record NextStart (s : List ℕ) (at next : ℕ) : Type 0 where
  pub «end» : ℕ
  pub line : next_line s at ≡ Some (taken_line at «end» next)
