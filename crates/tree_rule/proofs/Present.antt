-- The tokens that a signature names. Assumes nothing.
use Rattle.std.specs.Prelude.{Option, Some, None}
use mathlib.Core.Path.{◌≡◌, refl, ◌∙◌}
use mathlib.Core.Bool.{Bool, true, false}
use mathlib.Core.List.{List, [], ◌∷◌}
use Prim.Native.Nat.{ℕ, suc, ◌+◌, ◌-◌, ◌≤◌, ◌<◌}
use native.Mathlib.Omega.{arith}
use lib.ListN.{length, get_or, take, drop, length-drop, length-take}
use Rattle.ground.specs.Choice.{pick}
use Rattle.text_places.specs.Places.{or_else}
use Rattle.tree_rule.specs.declared.Token.{Token}
use Rattle.tree_rule.specs.declared.Token.TheVariants.{Other}
use Rattle.tree_rule.specs.declared.Owner.{Owner}
use Rattle.tree_rule.specs.declared.Owner.TheVariants.{Given, At as TokenAt}
use Rattle.tree_rule.specs.Signatures.{first_token, last_token, is_member_name, is_descriptor, is_owner, member_place, descriptor_place, owner_place, owner_by, signature_with, signature_for, node_signature}
use Rattle.tree_rule.specs.declared.NodeSignature.{NodeSignature}
use Rattle.ground.proofs.Answered.{some_part}

-- the first token of which a test holds, and the last, is one of them
pub record Holds (p : Token → Bool) (at : ℕ) (ts : List Token) (i : ℕ) : Type 0 where
  pub after : at ≤ i
  pub inside : i < at + length ts
  pub holds : p (get_or ts (i - at) (Other 0 0)) ≡ true

holds_later : (p : Token → Bool) (at : ℕ) (t : Token) (ts : List Token) (i : ℕ) → Holds p (suc at) ts i → Holds p at (t ∷ ts) i
holds_later p at t ts i k =
    let z : i - at ≡ suc (i - suc at) = omega (arith, k.after) in
    record { after = omega (arith, k.after); inside = omega (arith, k.inside); holds = rw z k.holds }

holds_here : (p : Token → Bool) (at : ℕ) (t : Token) (ts : List Token) (i : ℕ) → p t ≡ true → at ≡ i → Holds p at (t ∷ ts) i
holds_here p at t ts i h e =
    let z : i - at ≡ 0 = omega arith in
    record { after = omega arith; inside = omega arith; holds = rw z h }

pub first_holds : (p : Token → Bool) (at : ℕ) (ts : List Token) {i : ℕ} → first_token p at ts ≡ Some i → Holds p at ts i
unfolding first_token
first_holds p at [] e = absurd (let z : ◌≡◌ {A = ℕ} 0 1 = cc in omega arith)
first_holds p at (t ∷ ts) {i} e = go (p t) refl e (λ g. first_holds p (suc at) ts g)
  where
    go : (b : Bool) → p t ≡ b → pick b (Some at) (first_token p (suc at) ts) ≡ Some i →
        (first_token p (suc at) ts ≡ Some i → Holds p (suc at) ts i) → Holds p at (t ∷ ts) i
    go true h f again = holds_here p at t ts i h (let q : at ≡ i = cc in q)
    go false h f again = holds_later p at t ts i (again f)

last_holds : (p : Token → Bool) (at : ℕ) (ts : List Token) {i : ℕ} → last_token p at ts ≡ Some i → Holds p at ts i
unfolding last_token
last_holds p at [] e = absurd (let z : ◌≡◌ {A = ℕ} 0 1 = cc in omega arith)
last_holds p at (t ∷ ts) {i} e = go (last_token p (suc at) ts) (p t) refl refl e (λ g. last_holds p (suc at) ts g)
  where
    go : (o : Option ℕ) (b : Bool) → last_token p (suc at) ts ≡ o → p t ≡ b → or_else o (pick b (Some at) None) ≡ Some i →
        (last_token p (suc at) ts ≡ Some i → Holds p (suc at) ts i) → Holds p at (t ∷ ts) i
    go (Some j) b g h f again = holds_later p at t ts i (again (g ∙ f))
    go None true g h f again = holds_here p at t ts i h (let q : at ≡ i = cc in q)
    go None false g h f again = absurd (let z : ◌≡◌ {A = ℕ} 0 1 = cc in omega arith)

abbrev pub OwnerInside : ℕ → Owner → Type 0
OwnerInside n Given = 0 ≤ 0
OwnerInside n (TokenAt i) = i < n

pub record PresentAt (ts : List Token) (m d : ℕ) (o : Owner) : Type 0 where
  pub member_inside : m < length ts
  pub member_name_lem : is_member_name (get_or ts m (Other 0 0)) ≡ true
  pub descriptor_inside : d < length ts
  pub owner_inside : OwnerInside (length ts) o

module _ (name : ℕ → List ℕ) (ts : List Token) where
  owner_told : (m : ℕ) (o : Option ℕ) → owner_place name m ts ≡ o → OwnerInside (length ts) (owner_by o)
  owner_told m (Some i) e =
      let h = (last_holds (is_owner name) 0 (take m ts) e).inside in
      let l = length-take m ts in
      omega arith
  owner_told m None e = omega arith

  pub present_told : {x : NodeSignature} → node_signature name ts ≡ Some x → PresentAt ts x.member x.descriptor x.owner
  present_told {x} e = go (member_place ts) refl e
    where
      with : (i : ℕ) → member_place ts ≡ Some i → (q : Option ℕ) → descriptor_place i ts ≡ q →
          signature_with i q (owner_by (owner_place name i ts)) ≡ Some x → PresentAt ts x.member x.descriptor x.owner
      with i f None g h = absurd (let z : ◌≡◌ {A = ℕ} 0 1 = cc in omega arith)
      with i f (Some j) g h =
          let a = some_part (λ (r : NodeSignature). r.member) h in
          let b = some_part (λ (r : NodeSignature). r.descriptor) h in
          let c = some_part (λ (r : NodeSignature). r.owner) h in
          let k = first_holds is_member_name 0 ts f in
          let l = first_holds is_descriptor (i + 1) (drop (i + 1) ts) g in
          let z : x.member - 0 ≡ x.member = omega arith in
          let y : i - 0 ≡ x.member = omega arith in
          let n = length-drop (i + 1) ts in
          record {
            member_inside = omega (arith, k.inside);
            member_name_lem = rw y at k.holds;
            descriptor_inside = omega (arith, l.inside, l.after);
            owner_inside = rw c at (owner_told i (owner_place name i ts) refl);
          }

      go : (p : Option ℕ) → member_place ts ≡ p → signature_for name ts p ≡ Some x → PresentAt ts x.member x.descriptor x.owner
      go None f h = absurd (let z : ◌≡◌ {A = ℕ} 0 1 = cc in omega arith)
      go (Some i) f h = with i f (descriptor_place i ts) refl h
