-- Places in a text: the first and the last at which something stands, and whether two texts are the same.
use Rattle.std.specs.Prelude.{List, [], ◌∷◌, Bool, true, false, ℕ, suc, ◌+◌, eqb, Option, Some, None}
use Rattle.ground.specs.Choice.{pick, both}

-- the first place at which `p` holds of the text from there on; places count from `at`
unfoldable pub first_from : (List ℕ → Bool) → ℕ → List ℕ → Option ℕ
first_from p at [] = None
first_from p at (x ∷ s) =
    let later = first_from p (suc at) s in
    pick (p (x ∷ s)) (Some at) later

abbrev pub first_where : (List ℕ → Bool) → List ℕ → Option ℕ
first_where p s = first_from p 0 s

-- the first of two answers that is a place
abbrev pub or_else : Option ℕ → Option ℕ → Option ℕ
or_else (Some i) b = Some i
or_else None b = b

-- the last such place: one later in the text, else this one
unfoldable pub last_from : (List ℕ → Bool) → ℕ → List ℕ → Option ℕ
last_from p at [] = None
last_from p at (x ∷ s) = or_else (last_from p (suc at) s) (pick (p (x ∷ s)) (Some at) None)

abbrev pub last_where : (List ℕ → Bool) → List ℕ → Option ℕ
last_where p s = last_from p 0 s

-- a place as a number, counted from 1; 0 for none
abbrev pub place_number : Option ℕ → ℕ
place_number (Some i) = i + 1
place_number None = 0

-- the byte `b` stands at the head
abbrev pub starts : ℕ → List ℕ → Bool
starts b [] = false
starts b (x ∷ s) = eqb x b

-- the bytes `a` and `b` stand at the head, in this order
abbrev pub starts_pair : ℕ → ℕ → List ℕ → Bool
starts_pair a b [] = false
starts_pair a b (x ∷ s) = both (eqb x a) (starts b s)

-- two texts have the same bytes
unfoldable pub same : List ℕ → List ℕ → Bool
same [] [] = true
same [] (y ∷ t) = false
same (x ∷ s) [] = false
same (x ∷ s) (y ∷ t) = both (eqb x y) (same s t)
