-- What a load takes from a comment, in the words of RFC 8259's grammar.
use Rattle.std.specs.Prelude.{List, ℕ}
use Rattle.ground.specs.Ascii.{ascii}
use Rattle.json_grammar.specs.Grammar.{text, Named, JsonText}
use Rattle.json_grammar.specs.Members.{Last}

-- a JSON text whose last `id` is the fixed text and whose last `signature` is a string that stands for `v`
pub record GivesSignature (s v : List ℕ) : Type 0 where
  pub members : List Named
  pub readable : JsonText s members
  pub id : Last (ascii "id") (text (ascii "com.android.tools.r8.residualsignature")) members
  pub signature : Last (ascii "signature") (text v) members
