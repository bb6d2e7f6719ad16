-- Document 01 "Tree file (added)": "A node's signature: its first member name, the first descriptor after it, and as owner the nearest
-- earlier descriptor not starting `(`, else the class given. Starting `(` means method." Raw names are meant everywhere.
use Rattle.std.specs.Prelude.{Bool, true, false, not, List, [], ◌∷◌, ℕ, suc, ◌+◌, take, drop, Option, Some, None}
use Rattle.ground.specs.Choice.{pick}
use Rattle.text_places.specs.Places.{or_else, starts}
use Rattle.tree_rule.specs.declared.Token.{Token}
use Rattle.tree_rule.specs.declared.Token.TheVariants.{Other, MemberName, Descriptor, SourceLine}
use Rattle.tree_rule.specs.declared.Owner.{Owner}
use Rattle.tree_rule.specs.declared.Owner.TheVariants.{Given, At as TokenAt}
use Rattle.tree_rule.specs.declared.NodeSignature.{NodeSignature}

abbrev pub member_named : ℕ → ℕ → Owner → NodeSignature
member_named member descriptor owner = record { member = member; descriptor = descriptor; owner = owner }

-- the first token of which `p` holds, and the last; places count from `at`
unfoldable pub first_token : (Token → Bool) → ℕ → List Token → Option ℕ
first_token p at [] = None
first_token p at (t ∷ ts) =
    let later = first_token p (suc at) ts in
    pick (p t) (Some at) later

unfoldable pub last_token : (Token → Bool) → ℕ → List Token → Option ℕ
last_token p at [] = None
last_token p at (t ∷ ts) = or_else (last_token p (suc at) ts) (pick (p t) (Some at) None)

abbrev pub is_member_name : Token → Bool
is_member_name (Other a b) = false
is_member_name (MemberName raw display) = true
is_member_name (Descriptor raw display) = false
is_member_name (SourceLine raw display) = false

abbrev pub is_descriptor : Token → Bool
is_descriptor (Other a b) = false
is_descriptor (MemberName raw display) = false
is_descriptor (Descriptor raw display) = true
is_descriptor (SourceLine raw display) = false

-- "starting `(`"
abbrev pub opens : List ℕ → Bool
opens s = starts 0x28 s

-- a "descriptor not starting `(`"; `name` gives the text of a name by its number
abbrev pub is_owner : (ℕ → List ℕ) → Token → Bool
is_owner name (Other a b) = false
is_owner name (MemberName raw display) = false
is_owner name (Descriptor raw display) = not (opens (name raw))
is_owner name (SourceLine raw display) = false

-- "its first member name"
abbrev pub member_place : List Token → Option ℕ
member_place ts = first_token is_member_name 0 ts

-- "the first descriptor after it"
abbrev pub descriptor_place : ℕ → List Token → Option ℕ
descriptor_place member ts = first_token is_descriptor (member + 1) (drop (member + 1) ts)

-- "as owner the nearest earlier descriptor not starting `(`"
abbrev pub owner_place : (ℕ → List ℕ) → ℕ → List Token → Option ℕ
owner_place name member ts = last_token (is_owner name) 0 (take member ts)

-- "else the class given"
abbrev pub owner_by : Option ℕ → Owner
owner_by (Some i) = TokenAt i
owner_by None = Given

abbrev pub signature_with : ℕ → Option ℕ → Owner → Option NodeSignature
signature_with member (Some descriptor) owner = Some (member_named member descriptor owner)
signature_with member None owner = None

abbrev pub signature_for : (ℕ → List ℕ) → List Token → Option ℕ → Option NodeSignature
signature_for name ts (Some member) = signature_with member (descriptor_place member ts) (owner_by (owner_place name member ts))
signature_for name ts None = None

-- the signature of a node with these tokens, by places among them
abbrev pub node_signature : (ℕ → List ℕ) → List Token → Option NodeSignature
node_signature name ts = signature_for name ts (member_place ts)

-- "Starting `(` means method."
abbrev pub names_method : (ℕ → List ℕ) → Token → Bool
names_method name (Other a b) = false
names_method name (MemberName raw display) = false
names_method name (Descriptor raw display) = opens (name raw)
names_method name (SourceLine raw display) = false

-- the same signature by the numbers of tokens in the file, where the node's tokens start at token `first`
abbrev pub owner_from : ℕ → Owner → Owner
owner_from first (TokenAt i) = TokenAt (first + i)
owner_from first Given = Given

abbrev pub signature_from : ℕ → Option NodeSignature → Option NodeSignature
signature_from first (Some r) = Some (member_named (first + r.member) (first + r.descriptor) (owner_from first r.owner))
signature_from first None = None
