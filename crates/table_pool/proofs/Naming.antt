-- Names and class pieces, written into the pool. Assumes nothing.
use Rattle.std.specs.Prelude.{Result, Ok, Err}
use mathlib.Core.Path.{◌≡◌, refl, sym, ◌∙◌, ap}
use mathlib.Core.Bool.{Bool, true, false}
use mathlib.Core.List.{List, [], ◌∷◌, ◌++◌, map-id}
use Prim.Native.Nat.{ℕ, ◌+◌, ◌-◌, ◌^◌, ◌≤◌, ◌<◌}
use native.Mathlib.Omega.{arith}
use lib.ListN.{length, get_or, set, replicate, length-map, get_or-map}
use mir.Val.{Fits}
use mir.Syntax.{w64}
use borrow.Author.Tests.{eq-eqb, ne_eqb}
use borrow.Author.Rules.{rules}
use Rattle.table_pool.specs.Inner.Named.{slash_if, name_bytes, class_piece}
use Rattle.table_pool.specs.Names.{slash, slashed}
use Rattle.table_pool.specs.Inner.Wrote.{Written, WroteBy, no_room}
use Rattle.table_pool.proofs.Writes.{Pasting, text_starts, text_done, byte_more, wrote_told, wrote_none, wrote_then, none_then}
use Rattle.table_pool.specs.declared.write.NoRoom.{NoRoom}

-- Dots as slashes.
pub dot_slash : (b : ℕ) → b ≡ 0x2E → 0x2F ≡ slash b
dot_slash b e = sym (rw (eq-eqb b 0x2E e))

pub other_slash : (b : ℕ) → (b ≡ 0x2E → ⊥) → b ≡ slash b
other_slash b n = sym (rw (ne_eqb b 0x2E n))

pub ruleset slashing = (dot_slash, other_slash, rules)

pub slashed_length : (s : List ℕ) → length (slashed s) ≡ length s
slashed_length s = length-map s slash

-- One byte of a name.
module _ (b : ℕ) {dots : Bool} where
  pub stored_slash : dots ≡ true → {x : ℕ} → x ≡ slash b → x ≡ slash_if dots b
  stored_slash d e = e ∙ sym (rw d)

  pub stored_plain : dots ≡ false → b ≡ slash_if dots b
  stored_plain d = sym (rw d)

pub ruleset storing = (stored_slash, stored_plain, rules)

pub name_length : (dots : Bool) (s : List ℕ) → length (name_bytes dots s) ≡ length s
name_length dots s = length-map s (slash_if dots)

pub name_plain : (s : List ℕ) → name_bytes false s ≡ s
name_plain s = map-id s

pub name_byte : (dots : Bool) (s : List ℕ) (k : ℕ) → get_or (name_bytes dots s) k 0 ≡ slash_if dots (get_or s k 0)
name_byte dots s k = ap (get_or (name_bytes dots s) k) (sym (zero_stays dots)) ∙ get_or-map (slash_if dots) s k 0
  where
    zero_stays : (b : Bool) → slash_if b 0 ≡ 0
    zero_stays true = refl
    zero_stays false = refl

-- A name.
module _ (d : List ℕ) (at : ℕ) (name : List ℕ) (dots : Bool) where
  pub name_over : length d < at → length d < at + length (name_bytes dots name)
  name_over h = omega arith

  pub name_no_room : at ≤ length d → length d - at < length name → length d < at + length (name_bytes dots name)
  name_no_room i h = omega (arith, name_length dots name)

  module _ (i : at ≤ length d) (h : length name ≤ length d - at) where
    room_for : length (name_bytes dots name) ≤ length d - at
    room_for = omega (arith, name_length dots name)

    pub name_starts : Pasting d at (name_bytes dots name) d 0
    name_starts = text_starts d at (name_bytes dots name) i room_for

    module _ {room : List ℕ} {k : ℕ} (w : Pasting d at (name_bytes dots name) room k) where
      pub name_done : length name ≤ k → Written (at + length name) d at (name_bytes dots name) room
      name_done l =
          let e : k ≡ length name = omega (arith, w.some, name_length dots name) in
          rw (← e) (text_done d at (name_bytes dots name) i room_for w (omega (arith, name_length dots name)))

      pub name_inside_lem : k < length name → at + k < length room
      name_inside_lem l = omega (arith, w.size)

      pub name_more : k < length name → {x : ℕ} → x ≡ slash_if dots (get_or name k 0) → Pasting d at (name_bytes dots name) (set room (at + k) x) (k + 1)
      name_more l f = byte_more d at (name_bytes dots name) i room_for w (omega (arith, name_length dots name)) (f ∙ sym (name_byte dots name k))

      pub name_fits : length d < 2 ^ 64 → Fits w64 (at + k)
      name_fits z = omega (arith, w.some, name_length dots name)

pub ruleset naming = (name_over, name_no_room, name_starts, name_done, name_inside_lem, name_more, name_fits, rules)

-- A name and a `;`, and a whole piece.
module _ (d : List ℕ) (at : ℕ) (name : List ℕ) (dots : Bool) (r : Result ℕ NoRoom) (d₁ : List ℕ) where
  module _ (a : WroteBy r d at (name_bytes dots name) d₁) where
    pub closed_no_name : r ≡ Err no_room → length d < at + length (name_bytes dots name ++ (0x3B ∷ []))
    closed_no_name e = none_then d at (name_bytes dots name) (0x3B ∷ []) (wrote_none r d at (name_bytes dots name) d₁ a e)

    pub closed_done : {q : ℕ} → r ≡ Ok q → (t : Result ℕ NoRoom) (d₂ : List ℕ) → WroteBy t d₁ q (replicate 1 0x3B) d₂ → WroteBy t d at (name_bytes dots name ++ (0x3B ∷ [])) d₂
    closed_done e t d₂ b = wrote_then t (0x3B ∷ []) d₂ (wrote_told r d at (name_bytes dots name) d₁ a e) b

  module _ (a : WroteBy r d at (replicate 1 0x4C) d₁) where
    pub piece_no_letter : r ≡ Err no_room → length d < at + length (class_piece dots name)
    piece_no_letter e = none_then d at (0x4C ∷ []) (name_bytes dots name ++ (0x3B ∷ [])) (wrote_none r d at (replicate 1 0x4C) d₁ a e)

    pub piece_done : {q : ℕ} → r ≡ Ok q → (t : Result ℕ NoRoom) (d₂ : List ℕ) → WroteBy t d₁ q (name_bytes dots name ++ (0x3B ∷ [])) d₂ → WroteBy t d at (class_piece dots name) d₂
    piece_done e t d₂ b = wrote_then t (name_bytes dots name ++ (0x3B ∷ [])) d₂ (wrote_told r d at (replicate 1 0x4C) d₁ a e) b

pub ruleset closing = (closed_no_name, closed_done, rules)

pub ruleset piecing = (piece_no_letter, piece_done, rules)
