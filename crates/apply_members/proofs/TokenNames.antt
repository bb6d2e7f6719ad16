-- The tokens that a signature names have raw names. Assumes nothing.
use Rattle.std.specs.Prelude.{Option, Some, None}
use mathlib.Core.Path.{◌≡◌, refl, sym, ◌∙◌, ap}
use mathlib.Core.Bool.{Bool, true, false}
use mathlib.Core.List.{List, [], ◌∷◌}
use Prim.Native.Nat.{ℕ, suc, ◌+◌, ◌-◌, ◌≤◌, ◌<◌}
use native.Mathlib.Omega.{arith}
use lib.ListN.{get_or, take, drop, length-take}
use lib.Seq.{get_or-take, get_or-drop}
use Rattle.ground.specs.Choice.{pick}
use Rattle.text_places.specs.Places.{or_else}
use Rattle.tree_rule.specs.declared.Token.{Token}
use Rattle.tree_rule.specs.declared.Token.TheVariants.{Other, MemberName, Descriptor, SourceLine}
use Rattle.tree_rule.specs.declared.Owner.{Owner}
use Rattle.tree_rule.specs.declared.Owner.TheVariants.{Given, At as TokenAt}
use Rattle.tree_rule.specs.Signatures.{last_token, is_member_name, is_descriptor, is_owner, member_place, descriptor_place, owner_place, owner_by, signature_with, signature_for, node_signature}
use Rattle.tree_rule.proofs.Present.{Holds, first_holds}
use Rattle.apply_members.specs.Inner.Tokens.{is_named}
use Rattle.tree_rule.specs.declared.NodeSignature.{NodeSignature}
use Rattle.ground.proofs.Answered.{some_part}

-- the last token of which a test holds is one of them
last_holds : (p : Token → Bool) (at : ℕ) (ts : List Token) {i : ℕ} → last_token p at ts ≡ Some i → Holds p at ts i
unfolding last_token
last_holds p at [] e = absurd (let z : ◌≡◌ {A = ℕ} 0 1 = cc in omega arith)
last_holds p at (t ∷ ts) {i} e = go (last_token p (suc at) ts) (p t) refl refl e (λ g. last_holds p (suc at) ts g)
  where
    go : (o : Option ℕ) (b : Bool) → last_token p (suc at) ts ≡ o → p t ≡ b → or_else o (pick b (Some at) None) ≡ Some i →
        (last_token p (suc at) ts ≡ Some i → Holds p (suc at) ts i) → Holds p at (t ∷ ts) i
    go (Some j) b g h f again =
        let k = again (g ∙ f) in
        let z : i - at ≡ suc (i - suc at) = omega (arith, k.after) in
        record { after = omega (arith, k.after); inside = omega (arith, k.inside); holds = rw z k.holds }
    go None true g h f again =
        let y : at ≡ i = cc in
        let z : i - at ≡ 0 = omega arith in
        record { after = omega arith; inside = omega arith; holds = rw z h }
    go None false g h f again = absurd (let z : ◌≡◌ {A = ℕ} 0 1 = cc in omega arith)

member_named : (t : Token) → is_member_name t ≡ true → is_named t ≡ true
member_named (Other a b) e = e
member_named (MemberName raw display) e = refl
member_named (Descriptor raw display) e = refl
member_named (SourceLine raw display) e = e

descriptor_named : (t : Token) → is_descriptor t ≡ true → is_named t ≡ true
descriptor_named (Other a b) e = e
descriptor_named (MemberName raw display) e = refl
descriptor_named (Descriptor raw display) e = refl
descriptor_named (SourceLine raw display) e = e

owner_named : (name : ℕ → List ℕ) (t : Token) → is_owner name t ≡ true → is_named t ≡ true
owner_named name (Other a b) e = e
owner_named name (MemberName raw display) e = refl
owner_named name (Descriptor raw display) e = refl
owner_named name (SourceLine raw display) e = e

abbrev pub OwnerHasName : List Token → Owner → Type 0
OwnerHasName ts Given = 0 ≤ 0
OwnerHasName ts (TokenAt i) = is_named (get_or ts i (Other 0 0)) ≡ true

pub record PresentNamed (ts : List Token) (m d : ℕ) (o : Owner) : Type 0 where
  pub member : is_named (get_or ts m (Other 0 0)) ≡ true
  pub descriptor : is_named (get_or ts d (Other 0 0)) ≡ true
  pub owner : OwnerHasName ts o

module _ (name : ℕ → List ℕ) (ts : List Token) where
  owner_has : (m : ℕ) (o : Option ℕ) → owner_place name m ts ≡ o → OwnerHasName ts (owner_by o)
  owner_has m (Some i) e =
      let k = last_holds (is_owner name) 0 (take m ts) e in
      let z : i - 0 ≡ i = omega arith in
      let l : i < m = omega (arith, k.inside, length-take m ts) in
      let h : is_owner name (get_or (take m ts) i (Other 0 0)) ≡ true = rw z at k.holds in
      owner_named name (get_or ts i (Other 0 0)) (ap (is_owner name) (sym (get_or-take m ts i (Other 0 0) l)) ∙ h)
  owner_has m None e = omega arith

  pub present_named : {x : NodeSignature} → node_signature name ts ≡ Some x → PresentNamed ts x.member x.descriptor x.owner
  present_named {x} e = go (member_place ts) refl e
    where
      with : (i : ℕ) → member_place ts ≡ Some i → (q : Option ℕ) → descriptor_place i ts ≡ q →
          signature_with i q (owner_by (owner_place name i ts)) ≡ Some x → PresentNamed ts x.member x.descriptor x.owner
      with i f None g h = absurd (let z : ◌≡◌ {A = ℕ} 0 1 = cc in omega arith)
      with i f (Some j) g h =
          let a = some_part (λ (r : NodeSignature). r.member) h in
          let b = some_part (λ (r : NodeSignature). r.descriptor) h in
          let c = some_part (λ (r : NodeSignature). r.owner) h in
          let k = first_holds is_member_name 0 ts f in
          let l = first_holds is_descriptor (i + 1) (drop (i + 1) ts) g in
          let y : i - 0 ≡ x.member = omega arith in
          let z : i + 1 + (j - (i + 1)) ≡ x.descriptor = omega (arith, l.after) in
          let there : get_or (drop (i + 1) ts) (j - (i + 1)) (Other 0 0) ≡ get_or ts x.descriptor (Other 0 0) =
          get_or-drop (i + 1) ts (j - (i + 1)) (Other 0 0) ∙ ap (λ n. get_or ts n (Other 0 0)) z in
          record {
            member = member_named (get_or ts x.member (Other 0 0)) (rw y at k.holds);
            descriptor = descriptor_named (get_or ts x.descriptor (Other 0 0)) (rw there at l.holds);
            owner = rw c at (owner_has i (owner_place name i ts) refl);
          }

      go : (p : Option ℕ) → member_place ts ≡ p → signature_for name ts p ≡ Some x → PresentNamed ts x.member x.descriptor x.owner
      go None f h = absurd (let z : ◌≡◌ {A = ℕ} 0 1 = cc in omega arith)
      go (Some i) f h = with i f (descriptor_place i ts) refl h
