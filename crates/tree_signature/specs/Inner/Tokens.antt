-- The tokens of a node, as the walks go over them.
use Rattle.std.specs.Prelude.{Bool, false, not, List, ℕ, ◌+◌, ◌*◌, eqb}
use Rattle.ground.specs.Choice.{pick}
use Rattle.tree_rule.specs.declared.TreeCounts.{TreeCounts}
use Rattle.tree_rule.specs.declared.Token.{Token}
use Rattle.tree_rule.specs.declared.Token.TheVariants.{Other, MemberName, Descriptor, SourceLine}
use Rattle.tree_rule.specs.Files.{token_row, token_at}
use Rattle.tree_rule.specs.Signatures.{opens}

-- the number of a token's kind
abbrev pub kind_of : Token → ℕ
kind_of (Other a b) = 0
kind_of (MemberName raw display) = 1
kind_of (Descriptor raw display) = 2
kind_of (SourceLine raw display) = 3

abbrev pub of_kind : ℕ → Token → Bool
of_kind kind t = eqb (kind_of t) kind

-- a token of the node whose token rows start at the place `base`
abbrev pub row_of : List ℕ → ℕ → ℕ → Token
row_of f base k = token_row f (base + 12 * k)

-- a token of the node whose tokens start at token `first`
abbrev pub token_of : TreeCounts → List ℕ → ℕ → ℕ → Token
token_of c f first k = token_at c f (first + k)

-- a text starts `(`, or it does not, as is asked
abbrev pub starts_as : Bool → List ℕ → Bool
starts_as opening s = pick (opens s) opening (not opening)

-- a token is a descriptor of which that holds, by its raw name
abbrev pub described_as : Bool → (ℕ → List ℕ) → Token → Bool
described_as opening name (Other a b) = false
described_as opening name (MemberName raw display) = false
described_as opening name (Descriptor raw display) = starts_as opening (name raw)
described_as opening name (SourceLine raw display) = false
