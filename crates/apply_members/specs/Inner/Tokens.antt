-- Tokens that have a raw name, and the note about a name.
use Rattle.std.specs.Prelude.{◌≡◌, Bool, true, false, List, ℕ, ◌+◌, ◌*◌, ◌≤◌, ◌<◌, length}
use Rattle.tree_rule.specs.declared.TreeCounts.{TreeCounts}
use Rattle.tree_rule.specs.declared.Token.{Token}
use Rattle.tree_rule.specs.declared.Token.TheVariants.{Other, MemberName, Descriptor, SourceLine}
use Rattle.tree_rule.specs.declared.Owner.{Owner}
use Rattle.tree_rule.specs.declared.Owner.TheVariants.{Given, At}
use Rattle.tree_rule.specs.Words.{word_at}
use Rattle.tree_rule.specs.Files.{names_start, token_at}
use Rattle.apply_pieces.specs.Inner.Notes.{NoteSays}

-- a token has a raw name
abbrev pub is_named : Token → Bool
is_named (Other a b) = false
is_named (MemberName raw display) = true
is_named (Descriptor raw display) = true
is_named (SourceLine raw display) = false

-- the token `i` of a file has one
pub record NamedToken (c : TreeCounts) (f : List ℕ) (i : ℕ) : Type 0 where
  pub inside : i < c.tokens
  pub named : is_named (token_at c f i) ≡ true

-- and so has the token that an owner is
abbrev pub OwnerNamed : TreeCounts → List ℕ → Owner → Type 0
OwnerNamed c f Given = 0 ≤ 0
OwnerNamed c f (At i) = NamedToken c f i

-- The note about the name `n`, whose text is `text`, stands in the output.
pub record NoteOf (classes : List (List ℕ)) (pool : List ℕ) (c : TreeCounts) (out : List ℕ) (n : ℕ) (text : List ℕ) : Type 0 where
  pub room : names_start c + 8 * n + 8 ≤ length out
  pub says : NoteSays (word_at out (names_start c + 8 * n)) (word_at out (names_start c + 8 * n + 4)) classes pool text
