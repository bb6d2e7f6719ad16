-- What is noted of a node, by its signature. Assumes nothing.
use Rattle.std.specs.Prelude.{Option, Some, None}
use mathlib.Core.Path.{◌≡◌, refl, sym, ◌∙◌, ap}
use mathlib.Core.Bool.{Bool, true, not}
use mathlib.Core.List.{List, []}
use Prim.Native.Nat.{ℕ, ◌+◌, ◌≤◌, ◌<◌}
use native.Mathlib.Omega.{arith}
use lib.ListN.{length, get_or}
use borrow.Author.Rules.{rules}
use Rattle.table_rows.specs.Rows.{unpack_class}
use Rattle.tables.specs.Back.{text_in}
use Rattle.tables.specs.Search.{last_raw}
use Rattle.name_rule.specs.MemberNames.{Key, key}
use Rattle.name_index.proofs.LastRows.{raw_last}
use Rattle.tree_rule.specs.declared.TreeCounts.{TreeCounts}
use Rattle.tree_rule.specs.declared.Token.{Token}
use Rattle.tree_rule.specs.declared.Token.TheVariants.{Other}
use Rattle.tree_rule.specs.declared.Owner.{Owner}
use Rattle.tree_rule.specs.declared.Owner.TheVariants.{Given, At}
use Rattle.tree_rule.specs.Words.{list_from}
use Rattle.tree_rule.specs.Trees.{name_in}
use Rattle.tree_rule.specs.Files.{token_at, text_at, tree_by}
use Rattle.tree_rule.specs.Signatures.{node_signature, owner_from, signature_from, member_named}
use Rattle.tree_rule.proofs.RowLaws.{list_length, list_at}
use Rattle.tree_rule.proofs.Present.{OwnerInside, PresentAt, present_told}
use Rattle.tree_rule.proofs.Formed.{names_inside}
use Rattle.apply_rule.specs.Changes.{raw_name_of, raw_name_at, owner_name, signed_by, signed_of}
use Rattle.apply_pieces.specs.Inner.Notes.{NotesTold}
use Rattle.apply_members.specs.declared.member.MemberNote.{MemberNote}
use Rattle.apply_members.specs.declared.node.NodeNote.{NodeNote}
use Rattle.apply_members.specs.Inner.Notes.{note, is_home, is_row, row_note, member_note, token_owner, token_found, node_note, note_signed}
use Rattle.apply_members.specs.Inner.Tokens.{is_named, NamedToken, OwnerNamed, NoteOf}
use Rattle.apply_members.proofs.Noting.{owner_unknown, owner_noted}
use Rattle.apply_members.proofs.TokenNames.{OwnerHasName, PresentNamed, present_named}
use Rattle.tree_rule.specs.declared.NodeSignature.{NodeSignature}
use Rattle.ground.proofs.Answered.{some_part}

-- The raw name of a token.
pub name_told_lem : (c : TreeCounts) (f : List ℕ) (i n : ℕ) → text_at c f n ≡ raw_name_of (name_in (tree_by c f)) (token_at c f i) →
    {s : List ℕ} → s ≡ text_at c f n → s ≡ raw_name_of (name_in (tree_by c f)) (token_at c f i)
name_told_lem c f i n h e = e ∙ h

pub ruleset raw_naming = (name_told_lem, names_inside, rules)

-- The class row of an owner.
abbrev owner : List ℕ → TreeCounts → List ℕ → Owner → List ℕ
owner class c f o = token_owner class (name_in (tree_by c f)) (token_at c f) o

abbrev found : List (List ℕ) → List ℕ → Option ℕ → TreeCounts → List ℕ → Owner → Option ℕ
found classes pool g c f o = token_found classes pool g (name_in (tree_by c f)) (token_at c f) o

pub owner_there : (c : TreeCounts) (f : List ℕ) (o : Owner) {i : ℕ} → OwnerNamed c f o → o ≡ At i → NamedToken c f i
owner_there c f o h e = rw e at h

pub name_noted : (classes : List (List ℕ)) (pool : List ℕ) (c : TreeCounts) (f out : List ℕ) (n : ℕ) →
    NotesTold classes pool c f out → n < c.names → {s : List ℕ} → s ≡ text_at c f n → NoteOf classes pool c out n s
name_noted classes pool c f out n k h e = record { room = omega (arith, k.room); says = rw e (k.says n h) }

module _ (classes : List (List ℕ)) (pool : List ℕ) (g : Option ℕ) (c : TreeCounts) (f : List ℕ) (o : Owner) where
  pub given_found : o ≡ Given → g ≡ found classes pool g c f o
  given_found e = sym (ap (found classes pool g c f) e)

  pub token_found_lem : {i : ℕ} → o ≡ At i → (n : ℕ) → text_at c f n ≡ raw_name_of (name_in (tree_by c f)) (token_at c f i) →
      {w : List ℕ} → w ≡ text_at c f n → {r : Option ℕ} → r ≡ last_raw classes pool w → r ≡ found classes pool g c f o
  token_found_lem e n h p q = q ∙ ap (last_raw classes pool) (p ∙ h) ∙ sym (ap (found classes pool g c f) e)

pub ruleset owner_finding = (owner_there, name_noted, given_found, token_found_lem, names_inside, rules)

-- Whether an owner is the class given.
module _ (class : List ℕ) (c : TreeCounts) (f : List ℕ) (o : Owner) (d : List ℕ) {b : Bool} where
  pub home_given : o ≡ Given → b ≡ is_home class class d → b ≡ is_home class (owner class c f o) d
  home_given e h = h ∙ sym (ap (λ x. is_home class (owner class c f x) d) e)

  pub home_token : {i : ℕ} → o ≡ At i → {w : List ℕ} → w ≡ raw_name_of (name_in (tree_by c f)) (token_at c f i) → b ≡ is_home class w d →
      b ≡ is_home class (owner class c f o) d
  home_token e p h = h ∙ ap (λ x. is_home class x d) p ∙ sym (ap (λ x. is_home class (owner class c f x) d) e)

pub ruleset owner_homes = (owner_there, home_given, home_token, rules)

-- The member that two tokens and an owner name.
found_raw : (classes : List (List ℕ)) (pool class : List ℕ) (c : TreeCounts) (f : List ℕ) {g : Option ℕ} → g ≡ last_raw classes pool class →
    (o : Owner) → found classes pool g c f o ≡ last_raw classes pool (owner class c f o)
found_raw classes pool class c f e Given = e
found_raw classes pool class c f e (At i) = refl

module _ (classes rows : List (List ℕ)) (pool class : List ℕ) (c : TreeCounts) (f : List ℕ) (o : Owner) {g : Option ℕ}
    (e : g ≡ last_raw classes pool class) {z : Option ℕ} (s : z ≡ found classes pool g c f o) where
  is_raw : last_raw classes pool (owner class c f o) ≡ z
  is_raw = sym (s ∙ found_raw classes pool class c f e o)

  pub found_last : {i : ℕ} → z ≡ Some i → last_raw classes pool (text_in pool (unpack_class (get_or classes i [])).raw) ≡ Some i
  found_last h = raw_last classes pool (owner class c f o) (is_raw ∙ h)

  module _ (m d : ℕ) {n t : List ℕ} (p : n ≡ raw_name_of (name_in (tree_by c f)) (token_at c f m))
      (q : t ≡ raw_name_of (name_in (tree_by c f)) (token_at c f d)) where
    abbrev name : ℕ → List ℕ
    name i = raw_name_of (name_in (tree_by c f)) (token_at c f i)

    by_names : member_note classes rows pool class (key (owner class c f o) n t)
        ≡ member_note classes rows pool class (key (owner class c f o) (name m) (name d))
    by_names =
        ap (λ x. member_note classes rows pool class (key (owner class c f o) x t)) p
        ∙ ap (λ x. member_note classes rows pool class (key (owner class c f o) (name m) x)) q

    pub unknown_noted : z ≡ None → {h : Bool} → h ≡ is_home class (owner class c f o) t →
        note 0 (not h) 0 ≡ member_note classes rows pool class (key (owner class c f o) (name m) (name d))
    unknown_noted u w = owner_unknown classes rows pool class (owner class c f o) n t (is_raw ∙ u) w ∙ by_names

    pub row_noted : {i : ℕ} → z ≡ Some i → {r : MemberNote} →
        r ≡ row_note classes rows pool (key (text_in pool (unpack_class (get_or classes i [])).raw) n t) (is_row g i) →
        r ≡ member_note classes rows pool class (key (owner class c f o) (name m) (name d))
    row_noted {i} u w =
        w ∙ ap (λ x. row_note classes rows pool (key (text_in pool (unpack_class (get_or classes i [])).raw) n t) (is_row x i)) e
        ∙ owner_noted classes rows pool class (owner class c f o) n t (is_raw ∙ u) ∙ by_names

pub ruleset owner_noting = (found_last, unknown_noted, row_noted, rules)

-- A node.
module _ (c : TreeCounts) (f : List ℕ) (first count : ℕ) where
  abbrev ts : List Token
  ts = list_from (token_at c f) first count

  abbrev names : ℕ → List ℕ
  names n = name_in (tree_by c f) n

  module _ {s : Option NodeSignature} (e : s ≡ signature_from first (node_signature names ts)) where
    -- the signature by places among the node's tokens
    pub record Placed (m d : ℕ) (o : Owner) : Type 0 where
      pub at_member : ℕ
      pub at_descriptor : ℕ
      pub at_owner : Owner
      pub is : node_signature names ts ≡ Some (member_named at_member at_descriptor at_owner)
      pub member_is : m ≡ first + at_member
      pub descriptor_is : d ≡ first + at_descriptor
      pub owner_is : o ≡ owner_from first at_owner

    placed : {y : NodeSignature} → s ≡ Some y → Placed y.member y.descriptor y.owner
    placed {y} h = go (node_signature names ts) refl (sym e ∙ h)
      where
        go : (x : Option NodeSignature) → node_signature names ts ≡ x → signature_from first x ≡ Some y → Placed y.member y.descriptor y.owner
        go None p q = absurd (let z : ◌≡◌ {A = ℕ} 0 1 = cc in omega arith)
        go (Some r) p q =
            record {
              at_member = r.member;
              at_descriptor = r.descriptor;
              at_owner = r.owner;
              is = p;
              member_is = sym (some_part (λ (z : NodeSignature). z.member) q);
              descriptor_is = sym (some_part (λ (z : NodeSignature). z.descriptor) q);
              owner_is = sym (some_part (λ (z : NodeSignature). z.owner) q);
            }

    absent : s ≡ None → node_signature names ts ≡ None
    absent h = go (node_signature names ts) refl (sym e ∙ h)
      where
        go : (x : Option NodeSignature) → node_signature names ts ≡ x → signature_from first x ≡ None → x ≡ None
        go None p q = refl
        go (Some r) p q = absurd (let z : ◌≡◌ {A = ℕ} 0 1 = cc in omega arith)

    module _ (classes rows : List (List ℕ)) (pool class : List ℕ) where
      pub unsigned_note : s ≡ None → node_note 0 0 (note 0 true 0) ≡ note_signed classes rows pool class first (signed_of class names ts)
      unsigned_note h = ap (λ x. note_signed classes rows pool class first (signed_by class names ts x)) (sym (absent h))

    module _ {y : NodeSignature} (h : s ≡ Some y) where
      told : PresentAt ts (placed h).at_member (placed h).at_descriptor (placed h).at_owner
      told = present_told names ts (placed h).is

      size : length ts ≡ count
      size = list_length (token_at c f) first count

      token_is : (i : ℕ) → i < length ts → get_or ts i (Other 0 0) ≡ token_at c f (first + i)
      token_is i l = list_at (token_at c f) first count i (Other 0 0) (omega (arith, size))

      kinds : PresentNamed ts (placed h).at_member (placed h).at_descriptor (placed h).at_owner
      kinds = present_named names ts (placed h).is

      module _ (l : first + count ≤ c.tokens) where
        named_token : (i n : ℕ) → n ≡ first + i → i < length ts → is_named (get_or ts i (Other 0 0)) ≡ true → NamedToken c f n
        named_token i n p q k = record {
          inside = omega (arith, size);
          named = rw p (ap is_named (sym (token_is i q)) ∙ k);
        }

        pub member_token : NamedToken c f y.member
        member_token = named_token (placed h).at_member y.member (placed h).member_is told.member_inside kinds.member

        pub descriptor_token : NamedToken c f y.descriptor
        descriptor_token = named_token (placed h).at_descriptor y.descriptor (placed h).descriptor_is told.descriptor_inside kinds.descriptor

        pub owner_token : OwnerNamed c f y.owner
        owner_token = go (placed h).at_owner (placed h).owner_is told.owner_inside kinds.owner
          where
            go : (x : Owner) → y.owner ≡ owner_from first x → OwnerInside (length ts) x → OwnerHasName ts x → OwnerNamed c f y.owner
            go Given p q k = rw p (omega arith)
            go (At i) p q k = rw p (named_token i (first + i) refl q k)

      name_is : (i : ℕ) → i < length ts → {n : ℕ} → n ≡ first + i → raw_name_at names ts i ≡ raw_name_of names (token_at c f n)
      name_is i l p = ap (raw_name_of names) (token_is i l ∙ ap (token_at c f) (sym p))

      owner_name_lem : (class : List ℕ) → owner_name class names ts (placed h).at_owner ≡ token_owner class names (token_at c f) y.owner
      owner_name_lem class = go (placed h).at_owner (placed h).owner_is told.owner_inside
        where
          go : (x : Owner) → y.owner ≡ owner_from first x → OwnerInside (length ts) x → owner_name class names ts x ≡ token_owner class names (token_at c f) y.owner
          go Given p q = sym (ap (token_owner class names (token_at c f)) p)
          go (At i) p q = ap (raw_name_of names) (token_is i q) ∙ sym (ap (token_owner class names (token_at c f)) p)

      pub signed_note : (classes rows : List (List ℕ)) (pool class : List ℕ) {r : MemberNote} →
          r ≡ member_note classes rows pool class
          (key (token_owner class names (token_at c f) y.owner) (raw_name_of names (token_at c f y.member)) (raw_name_of names (token_at c f y.descriptor))) →
          record { member = y.member; named = r.named; inherits = r.inherits; lines = r.lines }
          ≡ note_signed classes rows pool class first (signed_of class names ts)
      signed_note classes rows pool class {r} q =
          let k : Key = key (owner_name class names ts (placed h).at_owner) (raw_name_at names ts (placed h).at_member)
          (raw_name_at names ts (placed h).at_descriptor) in
          let same : r ≡ member_note classes rows pool class k =
          q ∙ ap (λ x. member_note classes rows pool class (key x (raw_name_of names (token_at c f y.member)) (raw_name_of names (token_at c f y.descriptor))))
          (sym (owner_name_lem class))
          ∙ ap (λ x. member_note classes rows pool class (key (owner_name class names ts (placed h).at_owner) x (raw_name_of names (token_at c f y.descriptor))))
          (sym (name_is (placed h).at_member told.member_inside (placed h).member_is))
          ∙ ap (λ x. member_note classes rows pool class (key (owner_name class names ts (placed h).at_owner) (raw_name_at names ts (placed h).at_member) x))
          (sym (name_is (placed h).at_descriptor told.descriptor_inside (placed h).descriptor_is)) in
          ap (λ x. numbers_of y.member x) same
          ∙ ap (λ x. numbers_of x (member_note classes rows pool class k)) (placed h).member_is
          ∙ ap (λ x. note_signed classes rows pool class first (signed_by class names ts x)) (sym (placed h).is)
        where
          numbers_of : ℕ → MemberNote → NodeNote
          numbers_of n x = record { member = n; named = x.named; inherits = x.inherits; lines = x.lines }

pub ruleset node_noting = (unsigned_note, member_token, descriptor_token, owner_token, signed_note, rules)
