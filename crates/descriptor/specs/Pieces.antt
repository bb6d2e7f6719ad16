-- Document 01 "Descriptors": "each class piece turned to raw. A piece runs from an `L` to the next `;`; an `L` with no `;` copies the
-- rest." One rule for both directions: they differ in the look-up.
use Rattle.std.specs.Prelude.{List, [], ◌∷◌, ◌++◌, map, ℕ, eqb}
use Rattle.ground.specs.Choice.{pick}
use Rattle.ground.specs.Join.{join}
use Rattle.ground.specs.Look.{Look, look_or}

pub data Part : Type 0 where
  byte : ℕ → Part
  piece : List ℕ → Part

-- `w`: the bytes since an `L` for which no `;` has come yet; none where no piece has begun
unfoldable pub parts_from : List ℕ → List ℕ → List Part
parts_from w [] = map byte w
parts_from [] (b ∷ s) =
    let begins = parts_from (b ∷ []) s in
    let stays = byte b ∷ parts_from [] s in
    pick (eqb b 0x4C) begins stays
parts_from (a ∷ w) (b ∷ s) =
    let closes = piece (a ∷ (w ++ (b ∷ []))) ∷ parts_from [] s in
    let stays = parts_from (a ∷ (w ++ (b ∷ []))) s in
    pick (eqb b 0x3B) closes stays

abbrev pub turned : (List ℕ → Look) → Part → List ℕ
turned look (byte b) = b ∷ []
turned look (piece p) = look_or p (look p)

-- a descriptor with each class piece turned
abbrev pub turn : (List ℕ → Look) → List ℕ → List ℕ
turn look d = join (map (turned look) (parts_from [] d))
