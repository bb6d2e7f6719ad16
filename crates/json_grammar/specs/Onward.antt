-- Where the values of a text stand in it, in terms of the reader on lists.
use Rattle.std.specs.Prelude.{◌≡◌, List, [], ◌∷◌, ◌++◌, ℕ}
use Rattle.json_grammar.specs.Grammar.{Meaning, text}
use Rattle.json_grammar.specs.Reader.{got, chars_from, Item, value_of}

-- a string whose chars are `l`, with `r` left after it: the bytes that it stands for
pub record Texted (l : List ℕ) (m : Meaning) (r : List ℕ) : Type 0 where
  pub bytes : List ℕ
  pub is : m ≡ text bytes
  pub chars : chars_from 0 l ≡ got bytes r

-- the text `s` ends in `l`
pub record EndsIn (s l : List ℕ) : Type 0 where
  pub front : List ℕ
  pub cut : s ≡ front ++ l

-- the value that an item names is read where its text starts
pub record Standing (depth : ℕ) (s : List ℕ) (i : Item) : Type 0 where
  pub within : EndsIn s i.onward
  pub rest : List ℕ
  pub valued : value_of depth i.onward ≡ got i.named.value rest

-- so it is with every item
pub data Each (P : Item → Type 0) : List Item → Type 0 where
  each_none : Each P []
  each_one : {i : Item} {items : List Item} → P i → Each P items → Each P (i ∷ items)
