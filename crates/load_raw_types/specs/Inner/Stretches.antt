-- What a stretch of a text becomes, where the text stands between an `L` and a last `;`: from behind an `L` or a `;` to behind the next
-- `;` or `L`.
use Rattle.std.specs.Prelude.{◌≡◌, Bool, List, [], ◌∷◌, ◌++◌, ℕ, ◌+◌, ◌≤◌, ◌<◌, length, drop}
use Rattle.ground.specs.Look.{Look}
use Rattle.descriptor.specs.Pieces.{turn}
use Rattle.table_pool.specs.Inner.Wrote.{Written}
use Rattle.load_raw_types.specs.declared.types.Stretch.{Stretch}
use Rattle.load_raw_types.specs.declared.types.Stretch.TheVariants.{More, Last, NoRoom}
use Rattle.table_pool.specs.Inner.Named.{name_bytes, class_piece}

-- the text from the place `start` on, turned, where an `L` stands before it, and where a `;` does
abbrev pub inside_piece : (List ℕ → Look) → Bool → List ℕ → ℕ → List ℕ
inside_piece look dots text start = turn look (class_piece dots (drop start text))

abbrev pub outside_piece : (List ℕ → Look) → Bool → List ℕ → ℕ → List ℕ
outside_piece look dots text start = turn look (name_bytes dots (drop start text) ++ (0x3B ∷ []))

-- a first part of `whole` is written, and what the text becomes from the place `s` on is what is left
pub record Stretched (q s start size : ℕ) (whole rest pool : List ℕ) (at : ℕ) (pool₁ : List ℕ) : Type 0 where
  pub past : start < s
  pub inside : s ≤ size
  pub done : List ℕ
  pub written : Written q pool at done pool₁
  pub splits : whole ≡ done ++ rest

abbrev pub InsideBy : Stretch → (List ℕ → Look) → Bool → List ℕ → ℕ → List ℕ → ℕ → List ℕ → Type 0
InsideBy (More q s) look dots text start pool at pool₁ =
    Stretched q s start (length text) (inside_piece look dots text start) (outside_piece look dots text s) pool at pool₁
InsideBy (Last q) look dots text start pool at pool₁ = Written q pool at (inside_piece look dots text start) pool₁
InsideBy NoRoom look dots text start pool at pool₁ = length pool < at + length (inside_piece look dots text start)

-- whichever classes there are
abbrev pub OutsideBy : Stretch → Bool → List ℕ → ℕ → List ℕ → ℕ → List ℕ → Type 0
OutsideBy (More q s) dots text start pool at pool₁ =
    (look : List ℕ → Look) →
    Stretched q s start (length text) (outside_piece look dots text start) (inside_piece look dots text s) pool at pool₁
OutsideBy (Last q) dots text start pool at pool₁ = (look : List ℕ → Look) → Written q pool at (outside_piece look dots text start) pool₁
OutsideBy NoRoom dots text start pool at pool₁ = (look : List ℕ → Look) → length pool < at + length (outside_piece look dots text start)
