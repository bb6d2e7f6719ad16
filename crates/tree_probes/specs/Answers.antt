-- The answers of the functions over tree files as numbers.
use Rattle.std.specs.Prelude.{List, [], ◌∷◌, ℕ, ◌+◌, leb, Option, Some, None}
use Rattle.ground.specs.Choice.{pick}
use Rattle.tree_rule.specs.declared.Owner.{Owner}
use Rattle.tree_rule.specs.declared.Owner.TheVariants.{Given, At}
use Rattle.tree_rule.specs.Words.{list_from}
use Rattle.tree_rule.specs.Trees.{name_in}
use Rattle.tree_rule.specs.Files.{counts_in, token_at, tree_by}
use Rattle.tree_rule.specs.Checks.{well_formed_file}
use Rattle.tree_rule.specs.Signatures.{node_signature, signature_from}
use Rattle.tree_rule.specs.declared.NodeSignature.{NodeSignature}

-- a signature that is there: 1, its two tokens, and 0 for the class given, or 1 and the number of a token
abbrev pub present_numbers : ℕ → ℕ → Owner → List ℕ
present_numbers member descriptor Given = 1 ∷ member ∷ descriptor ∷ 0 ∷ 0 ∷ []
present_numbers member descriptor (At i) = 1 ∷ member ∷ descriptor ∷ 1 ∷ i ∷ []

abbrev pub no_numbers : List ℕ
no_numbers = 0 ∷ 0 ∷ 0 ∷ 0 ∷ 0 ∷ []

abbrev pub signature_numbers : Option NodeSignature → List ℕ
signature_numbers None = no_numbers
signature_numbers (Some r) = present_numbers r.member r.descriptor r.owner

-- the signature of the tokens from token `first` on, by numbers of tokens in the file
abbrev pub signature_in : List ℕ → ℕ → ℕ → Option NodeSignature
signature_in f first count =
    let c = counts_in f in
    signature_from first (node_signature (name_in (tree_by c f)) (list_from (token_at c f) first count))

-- zeros where the file is malformed or has no such tokens
abbrev pub asked_numbers : List ℕ → ℕ → ℕ → List ℕ
asked_numbers f first count =
    pick (well_formed_file f)
    (pick (leb (first + count) (counts_in f).tokens) (signature_numbers (signature_in f first count)) no_numbers)
    no_numbers
