-- What the reader says is what the grammar has, in both directions. Nobody has to believe a function. Assumes nothing.
use mathlib.Core.Path.{◌≡◌, refl, sym, ◌∙◌, ap}
use mathlib.Core.Bool.{Bool, true, false}
use mathlib.Core.List.{List, [], ◌∷◌}
use mathlib.Core.Logic.{◌↔◌}
use Prim.Native.Nat.{ℕ}
use native.Mathlib.Omega.{arith}
use Rattle.ground.specs.Choice.{pick}
use Rattle.ground.proofs.Cases.{clash}
use Rattle.text_places.specs.Places.{same}
use Rattle.text_places.proofs.PlaceLaws.{same_equal, same_refl}
use Rattle.json_grammar.specs.Grammar.{Meaning, Named, JsonText}
use Rattle.json_grammar.specs.Members.{Unnamed, nobody, nor, Last, this, later}
use Rattle.json_grammar.specs.Reader.{got, bad, Item, members_of, names, Found, missing, found, or_earlier, last_of}
use Rattle.json_grammar.proofs.ValuesTook.{json_took}
use Rattle.json_grammar.proofs.ValuesAll.{json_all}

-- a text is read exactly where it is a JSON text
pub readable_iff : (s : List ℕ) → ((items : List Item) × (members_of s ≡ got items [])) ↔ ((ms : List Named) × JsonText s ms)
readable_iff s = ((λ (items, e). (names items, json_took s e)), (λ (ms, j). let (items, n, e) = json_all j in (items, e)))

-- and its members are those of the text: there are no others
pub members_are : (s : List ℕ) {items : List Item} {ms : List Named} → members_of s ≡ got items [] → JsonText s ms → names items ≡ ms
members_are s {items} {ms} e j = let (xs, n, f) = json_all j in let same_items : items ≡ xs = cc in ap names same_items ∙ n

pub unreadable : (s : List ℕ) {ms : List Named} → members_of s ≡ bad → JsonText s ms → ⊥
unreadable s e j = let (xs, n, f) = json_all j in let z : ◌≡◌ {A = ℕ} 0 1 = cc in omega arith

-- The last member with a name. There is one such value at most
pub unnamed_none : {k : List ℕ} {m : Meaning} {ns : List Named} → Unnamed k ns → Last k m ns → ⊥
unnamed_none {k = k} {m = m} nobody x3 = elim x3 [ ]
unnamed_none (nor f u) (this e v w) = f e
unnamed_none (nor f u) (later l) = unnamed_none u l

pub last_once : {k : List ℕ} {m o : Meaning} {ns : List Named} → Last k m ns → Last k o ns → m ≡ o
last_once (this e v w) (this f x y) = sym v ∙ x
last_once (this e v w) (later l) = absurd (unnamed_none w l)
last_once (later l) (this e v w) = absurd (unnamed_none w l)
last_once (later l) (later o) = last_once l o

-- The reader finds it.
not_named : (k l : List ℕ) → same l k ≡ false → l ≡ k → ⊥
not_named k l q e = clash (ap (λ x. same x k) e ∙ same_refl k) q

pub missing_unnamed : (k : List ℕ) (items : List Item) → last_of k items ≡ missing → Unnamed k (names items)
unfolding last_of
missing_unnamed k [] e = nobody
missing_unnamed k (i ∷ items) e = go (last_of k items) refl (same i.named.key k) refl (missing_unnamed k items) e
  where
    go : (f : Found) → last_of k items ≡ f → (b : Bool) → same i.named.key k ≡ b → (last_of k items ≡ missing → Unnamed k (names items)) →
        or_earlier f (pick b (found i) missing) ≡ missing → Unnamed k (names (i ∷ items))
    go (found j) p b q again g = absurd (let z : ◌≡◌ {A = ℕ} 0 1 = cc in omega arith)
    go missing p true q again g = absurd (let z : ◌≡◌ {A = ℕ} 0 1 = cc in omega arith)
    go missing p false q again g = nor (not_named k i.named.key q) (again p)

pub found_last : (k : List ℕ) (items : List Item) {j : Item} → last_of k items ≡ found j → Last k j.named.value (names items)
unfolding last_of
found_last k [] e = absurd (let z : ◌≡◌ {A = ℕ} 0 1 = cc in omega arith)
found_last k (i ∷ items) {j} e = go (last_of k items) refl (same i.named.key k) refl (λ f. found_last k items f) e
  where
    go : (f : Found) → last_of k items ≡ f → (b : Bool) → same i.named.key k ≡ b → (last_of k items ≡ found j → Last k j.named.value (names items)) →
        or_earlier f (pick b (found i) missing) ≡ found j → Last k j.named.value (names (i ∷ items))
    go (found x) p b q again g = later (again (p ∙ g))
    go missing p true q again g =
        let is : i ≡ j = cc in
        this (same_equal i.named.key k q) (ap (λ x. x.named.value) is) (missing_unnamed k items p)
    go missing p false q again g = absurd (let z : ◌≡◌ {A = ℕ} 0 1 = cc in omega arith)

-- "the last member named k has the value m" is what the reader answers
pub last_found : (k : List ℕ) (items : List Item) {m : Meaning} → Last k m (names items) → (j : Item) × (last_of k items ≡ found j) × (j.named.value ≡ m)
last_found k items {m} l = go (last_of k items) refl
  where
    go : (f : Found) → last_of k items ≡ f → (j : Item) × (last_of k items ≡ found j) × (j.named.value ≡ m)
    go missing e = absurd (unnamed_none (missing_unnamed k items e) l)
    go (found j) e = (j, e, last_once (found_last k items e) l)

pub unnamed_missing : (k : List ℕ) (items : List Item) → Unnamed k (names items) → last_of k items ≡ missing
unnamed_missing k items u = go (last_of k items) refl
  where
    go : (f : Found) → last_of k items ≡ f → f ≡ missing
    go missing e = refl
    go (found j) e = absurd (unnamed_none u (found_last k items e))
