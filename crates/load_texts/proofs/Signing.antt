-- A residual signature, decoded or copied, and settled where it stands. Assumes nothing.
use Rattle.std.specs.Prelude.{Option, Some, None, Result, Ok, Err}
use mathlib.Core.Path.{◌≡◌, refl, sym, ◌∙◌, ap}
use mathlib.Core.Bool.{Bool, true, false}
use mathlib.Core.List.{List, [], ◌∷◌}
use Prim.Native.Nat.{ℕ, ◌+◌, ◌-◌, ◌≤◌, ◌<◌}
use native.Mathlib.Omega.{arith}
use lib.Dec.{leb}
use lib.ListN.{length, get_or, take, drop, length-append, take-append-drop}
use mir.Val.{Fits}
use mir.Syntax.{w8}
use borrow.Author.Tests.{leb-true, leb-false}
use borrow.Author.Rules.{rules}
use Rattle.ground.specs.Choice.{pick}
use Rattle.ground.specs.Put.{put, between}
use Rattle.ground.proofs.PutLaws.{put_over, put_part, length_put}
use Rattle.text_places.specs.Places.{last_where, starts}
use Rattle.json_grammar.specs.Reader.{Out, got, bad, chars_from}
use Rattle.json_decode.specs.Decoded.{decoded, written_of, room_of}
use Rattle.json_decode.specs.Inner.Plain.{plain_string}
use Rattle.json_decode.proofs.OwnLaws.{own_bytes}
use Rattle.json_decode.proofs.Writing.{decoded_inside}
use Rattle.table_pool.specs.Names.{slashed, class_descriptor}
use Rattle.descriptor.specs.Signatures.{raw_kept, raw_type, after_close, raw_signature}
use Rattle.table_pool.specs.Inner.Wrote.{Written, WroteBy, no_room}
use Rattle.table_pool.proofs.Naming.{slashed_length}
use Rattle.table_pool.proofs.Writes.{written_length, wrote_told, wrote_none, wrote_as}
use Rattle.table_pool.specs.declared.write.NoRoom.{NoRoom}
use Rattle.json_decode.specs.declared.write.WriteError.{WriteError}
use Rattle.json_decode.specs.declared.write.WriteError.TheVariants as write_error

-- A signature does not become shorter.
type_longer : (s : List ℕ) → length s ≤ length (raw_type s)
type_longer s = go (raw_kept s)
  where
    go : (b : Bool) → length s ≤ length (pick b s (class_descriptor s))
    go true = omega arith
    go false = omega (arith, length-append (slashed s) (0x3B ∷ []), slashed_length s)

pub signature_longer : (m : Bool) (s : List ℕ) → length s ≤ length (raw_signature m s)
signature_longer true s = go (last_where (starts 0x29) s)
  where
    go : (p : Option ℕ) → length s ≤ length (after_close s p)
    go None = omega arith
    go (Some i) =
        let whole = ap length (sym (take-append-drop (i + 1) s)) in
        omega (arith, length-append (take (i + 1) s) (drop (i + 1) s), length-append (take (i + 1) s) (raw_type (drop (i + 1) s)), type_longer (drop (i + 1) s))
signature_longer false s = type_longer s

-- written over what stands there
settled : (r : Result ℕ NoRoom) (d : List ℕ) (at : ℕ) (v b d₂ : List ℕ) → at + length v ≤ length d → length v ≤ length b → WroteBy r (put d at v) at b d₂ → WroteBy r d at b d₂
settled (Ok q) d at v b d₂ h k w = record {
  past = w.past;
  room = rw (length_put d at v h) at w.room;
  is = w.is ∙ put_over d at v b h k;
}
settled (Err _) d at v b d₂ h k w = rw (length_put d at v h) at w

-- A signature that was written as it is.
module _ {q : ℕ} {d : List ℕ} {at : ℕ} {v d₁ : List ℕ} (w : Written q d at v d₁) where
  written_order : at ≤ q
  written_order = let p = w.past in omega arith

  written_inside : q ≤ length d₁
  written_inside = let n = written_length w in omega (arith, w.past, w.room)

  there : between d₁ at q ≡ v
  there =
      let size : q - at ≡ length v = let p = w.past in omega arith in
      let i : at ≤ length d = let r = w.room in omega arith in
      ap (λ n. take n (drop at d₁)) size ∙ ap (λ x. take (length v) (drop at x)) w.is ∙ put_part d at v i

  written_settled : (m : Bool) (r : Result ℕ NoRoom) (d₂ : List ℕ) → WroteBy r d₁ at (raw_signature m (between d₁ at q)) d₂ → WroteBy r d at (raw_signature m v) d₂
  written_settled m r d₂ k =
      let k₁ : WroteBy r d₁ at (raw_signature m v) d₂ = rw there at k in
      let k₂ : WroteBy r (put d at v) at (raw_signature m v) d₂ = rw w.is at k₁ in
      settled r d at v (raw_signature m v) d₂ w.room (signature_longer m v) k₂

-- A signature that is copied.
module _ (d : List ℕ) (at : ℕ) (v d₁ : List ℕ) (u : Result ℕ NoRoom) (k : WroteBy u d at v d₁) where
  pub copied_over : (m : Bool) → u ≡ Err no_room → length d < at + length (raw_signature m v)
  copied_over m g = omega (arith, wrote_none u d at v d₁ k g, signature_longer m v)

  module _ {q : ℕ} (g : u ≡ Ok q) where
    pub copied_order : at ≤ q
    copied_order = written_order (wrote_told u d at v d₁ k g)

    pub copied_inside : q ≤ length d₁
    copied_inside = written_inside (wrote_told u d at v d₁ k g)

    pub copied_done : (m : Bool) (r : Result ℕ NoRoom) (d₂ : List ℕ) → WroteBy r d₁ at (raw_signature m (between d₁ at q)) d₂ → WroteBy r d at (raw_signature m v) d₂
    copied_done m r d₂ l = written_settled (wrote_told u d at v d₁ k g) m r d₂ l

pub ruleset copying = (copied_over, copied_order, copied_inside, copied_done, rules)

-- A string without escapes stands for its own bytes.
module _ (s : List ℕ) (string : ℕ) {t : Option ℕ} {e : ℕ} (f : t ≡ plain_string s string) (h : t ≡ Some e) (w : (i : ℕ) → Fits w8 (get_or s i 0)) where
  pub own_order : string ≤ e
  own_order = (own_bytes s string f h w).goes

  pub own_inside : e ≤ length s
  own_inside = let i = (own_bytes s string f h w).inside in omega arith

  pub own_done : (d : List ℕ) (at : ℕ) (m : Bool) (r : Result ℕ NoRoom) (d₁ : List ℕ) → WroteBy r d at (raw_signature m (between s string e)) d₁ →
      WroteBy r d at (raw_signature m (decoded (chars_from 0 (drop string s)))) d₁
  own_done d at m r d₁ k = wrote_as r d at d₁ (ap (λ o. raw_signature m (decoded o)) (sym (own_bytes s string f h w).reads)) k

pub ruleset lending = (own_order, own_inside, own_done, rules)

-- What `decode_at` answered.
fitted : (o : Out (List ℕ)) (at : ℕ) (d d₁ : List ℕ) {q : ℕ} → d₁ ≡ room_of o at d → written_of o at (length d) ≡ Ok q → Written q d at (decoded o) d₁
fitted bad at d d₁ i e = absurd (let z : ◌≡◌ {A = ℕ} 0 1 = cc in omega arith)
fitted (got v r) at d d₁ {q} i e = go (leb (at + length v) (length d)) refl e
  where
    go : (b : Bool) → leb (at + length v) (length d) ≡ b → pick b (Ok (at + length v)) (Err write_error.NoRoom) ≡ Ok q → Written q d at v d₁
    go true f g = record { past = cc; room = leb-true (at + length v) (length d) f; is = i ∙ rw f }
    go false f g = absurd (let z : ◌≡◌ {A = ℕ} 0 1 = cc in omega arith)

over : (o : Out (List ℕ)) (at : ℕ) (d : List ℕ) → written_of o at (length d) ≡ Err write_error.NoRoom → length d < at + length (decoded o)
over bad at d e = absurd (let z : ◌≡◌ {A = ℕ} 0 1 = cc in omega arith)
over (got v r) at d e = go (leb (at + length v) (length d)) refl e
  where
    go : (b : Bool) → leb (at + length v) (length d) ≡ b → pick b (Ok (at + length v)) (Err write_error.NoRoom) ≡ Err write_error.NoRoom → length d < at + length v
    go true f g = absurd (let z : ◌≡◌ {A = ℕ} 0 1 = cc in omega arith)
    go false f g = leb-false (at + length v) (length d) f

none : (o : Out (List ℕ)) (at : ℕ) (d : List ℕ) → written_of o at (length d) ≡ Err write_error.NoString → (decoded o ≡ []) × (room_of o at d ≡ d)
none bad at d e = (refl, refl)
none (got v r) at d e = go (leb (at + length v) (length d)) e
  where
    go : (b : Bool) → pick b (Ok (at + length v)) (Err write_error.NoRoom) ≡ Err write_error.NoString → (v ≡ []) × (pick (leb (at + length v) (length d)) (put d at v) d ≡ d)
    go true g = absurd (let z : ◌≡◌ {A = ℕ} 0 1 = cc in omega arith)
    go false g = absurd (let z : ◌≡◌ {A = ℕ} 0 1 = cc in omega arith)

module _ (o : Out (List ℕ)) (at : ℕ) (d d₁ : List ℕ) (m : Bool) {w : Result ℕ WriteError} (e : w ≡ written_of o at (length d)) (g : d₁ ≡ room_of o at d) where
  pub signature_over : w ≡ Err write_error.NoRoom → length d < at + length (raw_signature m (decoded o))
  signature_over h = omega (arith, over o at d (sym e ∙ h), signature_longer m (decoded o))

  module _ {q : ℕ} (h : w ≡ Ok q) where
    it : Written q d at (decoded o) d₁
    it = fitted o at d d₁ g (sym e ∙ h)

    pub signature_order : at ≤ q
    signature_order = written_order it

    pub signature_done : (r : Result ℕ NoRoom) (d₂ : List ℕ) → WroteBy r d₁ at (raw_signature m (between d₁ at q)) d₂ → WroteBy r d at (raw_signature m (decoded o)) d₂
    signature_done r d₂ k = written_settled it m r d₂ k

  module _ (h : w ≡ Err write_error.NoString) where
    pub signature_none_inside : at ≤ length d → at ≤ length d₁
    signature_none_inside i = rw (g ∙ (none o at d (sym e ∙ h)).1) i

    pub signature_none : (r : Result ℕ NoRoom) (d₂ : List ℕ) → WroteBy r d₁ at (raw_signature m (between d₁ at at)) d₂ → WroteBy r d at (raw_signature m (decoded o)) d₂
    signature_none r d₂ k =
        let size : at - at ≡ 0 = omega arith in
        let nothing : between d₁ at at ≡ decoded o = ap (λ n. take n (drop at d₁)) size ∙ sym (none o at d (sym e ∙ h)).0 in
        let k₁ : WroteBy r d₁ at (raw_signature m (decoded o)) d₂ = rw nothing at k in
        rw (g ∙ (none o at d (sym e ∙ h)).1) at k₁

pub ruleset signing = (signature_over, signature_order, decoded_inside, signature_done, signature_none_inside, signature_none, rules)
