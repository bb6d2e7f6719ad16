-- Answers as numbers. Assumes nothing.
use Rattle.std.specs.Prelude.{Result, Ok, Err}
use mathlib.Core.Path.{◌≡◌, refl, sym, ◌∙◌, ap}
use mathlib.Core.Bool.{not}
use mathlib.Core.List.{List, [], ◌∷◌}
use Prim.Native.Nat.{ℕ, ◌≤◌, ◌<◌}
use lib.Dec.{eqb}
use lib.ListN.{length}
use borrow.Author.Tests.{lt-ltb, le-ltb}
use borrow.Author.Rules.{rules}
use Rattle.ground.specs.Put.{between}
use Rattle.descriptor.specs.declared.types.TypeShape.{TypeShape}
use Rattle.descriptor.specs.Types.{shape_of}
use Rattle.descriptor.specs.Signatures.{raw_signature}
use Rattle.table_pool.specs.Inner.Wrote.{WroteBy, no_room}
use Rattle.descriptor_probes.specs.Answers.{wrote_numbers, base_number, base_letter, shape_numbers, SaidWithin}
use Rattle.table_pool.specs.declared.write.NoRoom.{NoRoom}

pub done_numbers : (w : Result ℕ NoRoom) {q : ℕ} → w ≡ Ok q → 1 ∷ q ∷ [] ≡ wrote_numbers w
done_numbers w e = sym (ap wrote_numbers e)

pub none_numbers : (w : Result ℕ NoRoom) → w ≡ Err no_room → 0 ∷ 0 ∷ [] ≡ wrote_numbers w
none_numbers w e = sym (ap wrote_numbers e)

pub ruleset wrote_saying = (done_numbers, none_numbers, rules)

-- the shape of a type
pub shape_numbers_lem : (s : List ℕ) {t : TypeShape} → t ≡ shape_of s → {n l : ℕ} → n ≡ base_number t.base → l ≡ base_letter t.base →
    t.brackets ∷ t.start ∷ t.«end» ∷ n ∷ l ∷ [] ≡ shape_numbers (shape_of s)
shape_numbers_lem s {t} e {n} {l} f g =
    ap (λ k. t.brackets ∷ t.start ∷ t.«end» ∷ k ∷ l ∷ []) f
    ∙ ap (λ k. t.brackets ∷ t.start ∷ t.«end» ∷ base_number t.base ∷ k ∷ []) g
    ∙ ap shape_numbers e

pub ruleset shape_saying = (shape_numbers_lem, rules)

-- A signature in the room.
module _ (d : List ℕ) (at e method : ℕ) where
  pub said_crossed : e < at → SaidWithin (2 ∷ 0 ∷ []) d at e method d
  said_crossed h = rw (lt-ltb e at h) (refl, refl)

  module _ (i : at ≤ e) where
    pub said_past : length d < e → SaidWithin (2 ∷ 0 ∷ []) d at e method d
    said_past h = rw (le-ltb e at i, lt-ltb (length d) e h) (refl, refl)

    pub said_signature : e ≤ length d → (d₁ : List ℕ) (w : Result ℕ NoRoom) → WroteBy w d at (raw_signature (not (eqb method 0)) (between d at e)) d₁ →
        {numbers : List ℕ} → numbers ≡ wrote_numbers w → SaidWithin numbers d at e method d₁
    said_signature h d₁ w k f = rw (le-ltb e at i, le-ltb (length d) e h) (record { answer = w; are = f; wrote = k })

pub ruleset signature_saying = (said_crossed, said_past, said_signature, rules)
