-- What a look-up answers: a text, or that nothing is known.
use Rattle.std.specs.Prelude.{Bool, true, false, List, ℕ}

pub data Look : Type 0 where
  known : List ℕ → Look
  unknown : Look

abbrev pub is_known : Look → Bool
is_known (known s) = true
is_known unknown = false

-- what is found, else the text `p` itself
abbrev pub look_or : List ℕ → Look → List ℕ
look_or p (known q) = q
look_or p unknown = p

-- the first of two answers that is known
abbrev pub or_look : Look → Look → Look
or_look (known q) l = known q
or_look unknown l = l
