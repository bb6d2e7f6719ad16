-- What the answer for a comment says of its text, in the words of RFC 8259's grammar. proofs/Grammatical shows that it does.
use Rattle.std.specs.Prelude.{◌≡◌, List, ◌∷◌, ◌++◌, ◌↔◌, ℕ, drop}
use Rattle.json_grammar.specs.Grammar.{text, other, Named}
use Rattle.json_grammar.specs.Members.{Unnamed, Last}
use Rattle.json_grammar.specs.Reader.{got, chars_from}
use Rattle.json_comment.specs.declared.answer.Stands.{Stands}
use Rattle.json_comment.specs.declared.answer.Stands.TheVariants.{Missing, Other, Text}

-- a string of the text `s` whose first char is at `p`: the text before its quotation mark, and that it reads as `v`
pub record Told (s : List ℕ) (p : ℕ) (v : List ℕ) : Type 0 where
  pub front : List ℕ
  pub cut : s ≡ front ++ (0x22 ∷ drop p s)
  pub rest : List ℕ
  pub chars : chars_from 0 (drop p s) ≡ got v rest

-- of a text `s` with the members `ms`: what is answered for the name `k` is what stands last under it
pub record Says (s : List ℕ) (ms : List Named) (k : List ℕ) (stands : Stands) : Type 0 where
  pub if_missing : (stands ≡ Missing) ↔ Unnamed k ms
  pub if_other : (stands ≡ Other) ↔ Last k other ms
  pub if_text : (v : List ℕ) → ((p : ℕ) × (stands ≡ Text p) × Told s p v) ↔ Last k (text v) ms
