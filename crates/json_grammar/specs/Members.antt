-- Document 01 "Comments", over the members of a JSON text: "Repeated keys: the last counts, compared after escapes".
use Rattle.std.specs.Prelude.{◌≡◌, List, [], ◌∷◌, ℕ}
use Rattle.json_grammar.specs.Grammar.{Meaning, Named}

-- no member has the name
pub data Unnamed (k : List ℕ) : List Named → Type 0 where
  nobody : Unnamed k []
  nor : {n : Named} {ns : List Named} → (n.key ≡ k → ⊥) → Unnamed k ns → Unnamed k (n ∷ ns)

-- the last member with the name `k` has the value `m`: it is this one and no later member has the name, or it is a later one
pub data Last (k : List ℕ) (m : Meaning) : List Named → Type 0 where
  this : {n : Named} {ns : List Named} → n.key ≡ k → n.value ≡ m → Unnamed k ns → Last k m (n ∷ ns)
  later : {n : Named} {ns : List Named} → Last k m ns → Last k m (n ∷ ns)
