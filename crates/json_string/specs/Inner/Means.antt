-- Places in a text for what is left of it: the code's answers, in terms of RFC 8259's reader on lists.
use Rattle.std.specs.Prelude.{◌≡◌, List, ℕ, ◌≤◌, length, drop, Option, Some, None}
use Rattle.json_grammar.specs.Reader.{Out, got, bad}

-- reading went well, and what is left starts at the place `n` of the text
pub record Reached {A : Type 0} (s : List ℕ) (n : ℕ) (o : Out A) : Type 0 where
  pub inside : n ≤ length s
  pub value : A
  pub reads : o ≡ got value (drop n s)

-- the answer `r` says of the text `s` what the reader's answer `o` does
abbrev pub Means : {A : Type 0} → List ℕ → Option ℕ → Out A → Type 0
Means s (Some n) o = Reached s n o
Means s None o = o ≡ bad
