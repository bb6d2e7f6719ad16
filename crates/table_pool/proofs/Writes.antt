-- Bytes written one after the other. Assumes nothing.
use Rattle.std.specs.Prelude.{Result, Ok, Err}
use mathlib.Core.Path.{◌≡◌, refl, sym, ◌∙◌, ap}
use mathlib.Core.List.{List, ◌++◌}
use Prim.Native.Nat.{ℕ, ◌+◌, ◌-◌, ◌^◌, ◌≤◌, ◌<◌}
use native.Mathlib.Nat.{add_assoc}
use native.Mathlib.Numerals.{add-one}
use native.Mathlib.Omega.{arith}
use lib.ListN.{length, get_or, set, replicate, length-set, length-append, length-replicate, get_or-replicate}
use lib.Seq.{paste, paste-zero, paste-suc}
use mir.Val.{Fits}
use mir.Syntax.{w64}
use borrow.Author.Rules.{rules}
use Rattle.ground.specs.Put.{put}
use Rattle.ground.proofs.PutLaws.{paste_put, put_put, length_put}
use Rattle.table_pool.specs.Inner.Wrote.{Written, WroteBy, TwoAt, TwoBy, no_room, two_texts}
use Rattle.table_pool.specs.declared.write.NoRoom.{NoRoom}
use Rattle.table_pool.specs.declared.write.TwoTexts.{TwoTexts}

-- the first `k` of the bytes `b` are written
pub record Pasting (d : List ℕ) (at : ℕ) (b room : List ℕ) (k : ℕ) : Type 0 where
  pub some : k ≤ length b
  pub is : room ≡ paste d at b k
  pub size : length room ≡ length d

paste_starts : (d : List ℕ) (at : ℕ) (b : List ℕ) → Pasting d at b d 0
paste_starts d at b = record { some = omega arith; is = paste-zero d at b; size = refl }

module _ (d : List ℕ) (at : ℕ) (b : List ℕ) (i : at + length b ≤ length d) {room : List ℕ} {k : ℕ} (w : Pasting d at b room k) where
  paste_done : length b ≤ k → Written (at + k) d at b room
  paste_done h =
      let e : k ≡ length b = let s = w.some in omega arith in
      record { past = ap (λ n. at + n) e; room = i; is = w.is ∙ ap (paste d at b) e ∙ paste_put d at b }

  paste_more : {x : ℕ} → k < length b → x ≡ get_or b k 0 → Pasting d at b (set room (at + k) x) (k + 1)
  paste_more {x} h f = record {
    some = omega arith;
    is = rw (w.is, f, add-one) (paste-suc d at b k 0 (omega arith) h);
    size = length-set room (at + k) x ∙ w.size;
  }

pub no_room_at : (d : List ℕ) (at : ℕ) (b : List ℕ) → length d < at → length d < at + length b
no_room_at d at b h = omega arith

-- A text.
module _ (d : List ℕ) (at : ℕ) (text : List ℕ) where
  pub text_no_room : at ≤ length d → length d - at < length text → length d < at + length text
  text_no_room i h = omega arith

  module _ (i : at ≤ length d) (h : length text ≤ length d - at) where
    pub text_starts : Pasting d at text d 0
    text_starts = paste_starts d at text

    pub text_room : at + length text ≤ length d
    text_room = omega arith

    pub text_whole : {after : List ℕ} → after ≡ put d at text → Written (at + length text) d at text after
    text_whole e = record { past = refl; room = omega arith; is = e }

    module _ {room : List ℕ} {k : ℕ} (w : Pasting d at text room k) where
      pub text_done : length text ≤ k → Written (at + k) d at text room
      text_done = paste_done d at text (omega arith) w

      pub text_inside : k < length text → at + k < length room
      text_inside l = omega (arith, w.size)

      pub text_more : k < length text → Pasting d at text (set room (at + k) (get_or text k 0)) (k + 1)
      text_more l = paste_more d at text (omega arith) w l refl

      pub text_fits : length d < 2 ^ 64 → Fits w64 (at + k)
      text_fits z = omega (arith, w.some)

-- the next of the bytes `b`
pub byte_more : (d : List ℕ) (at : ℕ) (b : List ℕ) → at ≤ length d → length b ≤ length d - at → {room : List ℕ} {k : ℕ} → Pasting d at b room k → k < length b → {x : ℕ} → x ≡ get_or b k 0 →
    Pasting d at b (set room (at + k) x) (k + 1)
byte_more d at b i h {room} {k} w l e = rw e (text_more d at b i h w l)

pub ruleset texts = (no_room_at, text_no_room, text_room, text_whole, text_starts, text_done, text_inside, text_more, text_fits, rules)

-- One byte so many times.
module _ (d : List ℕ) (at byte count : ℕ) where
  pub bytes_over : length d < at → length d < at + length (replicate count byte)
  bytes_over h = omega arith

  pub bytes_no_room : at ≤ length d → length d - at < count → length d < at + length (replicate count byte)
  bytes_no_room i h = omega (arith, length-replicate count byte)

  module _ (i : at ≤ length d) (h : count ≤ length d - at) where
    pub bytes_starts : Pasting d at (replicate count byte) d 0
    bytes_starts = paste_starts d at (replicate count byte)

    room_for : at + length (replicate count byte) ≤ length d
    room_for = omega (arith, length-replicate count byte)

    module _ {room : List ℕ} {k : ℕ} (w : Pasting d at (replicate count byte) room k) where
      pub bytes_done : count ≤ k → Written (at + k) d at (replicate count byte) room
      bytes_done l = paste_done d at (replicate count byte) room_for w (omega (arith, length-replicate count byte))

      pub bytes_inside : k < count → at + k < length room
      bytes_inside l = omega (arith, w.size)

      pub bytes_more : k < count → Pasting d at (replicate count byte) (set room (at + k) byte) (k + 1)
      bytes_more l = paste_more d at (replicate count byte) room_for w (omega (arith, length-replicate count byte)) (sym (get_or-replicate count k byte 0 l))

      pub bytes_fits : length d < 2 ^ 64 → Fits w64 (at + k)
      bytes_fits z = omega (arith, w.some, length-replicate count byte)

pub ruleset bytes = (bytes_over, bytes_no_room, bytes_starts, bytes_done, bytes_inside, bytes_more, bytes_fits, rules)

-- One after the other.
pub wrote_told : (r : Result ℕ NoRoom) (d : List ℕ) (at : ℕ) (b d₁ : List ℕ) {q : ℕ} → WroteBy r d at b d₁ → r ≡ Ok q → Written q d at b d₁
wrote_told r d at b d₁ w e = rw e at w

pub wrote_none : (r : Result ℕ NoRoom) (d : List ℕ) (at : ℕ) (b d₁ : List ℕ) → WroteBy r d at b d₁ → r ≡ Err no_room → length d < at + length b
wrote_none r d at b d₁ w e = rw e at w

-- the same bytes in other words
pub wrote_as : (r : Result ℕ NoRoom) (d : List ℕ) (at : ℕ) (d₁ : List ℕ) {b c : List ℕ} → b ≡ c → WroteBy r d at b d₁ → WroteBy r d at c d₁
wrote_as r d at d₁ e w = rw (← e) w

pub written_length : {q : ℕ} {d : List ℕ} {at : ℕ} {b d₁ : List ℕ} → Written q d at b d₁ → length d₁ ≡ length d
written_length {d = d} {at = at} {b = b} w = ap length w.is ∙ length_put d at b w.room

-- the promise leaves one answer, and one pool where all is written
pub wrote_once : (r q : Result ℕ NoRoom) (d : List ℕ) (at : ℕ) (b d₁ d₂ : List ℕ) → WroteBy r d at b d₁ → WroteBy q d at b d₂ → r ≡ q
wrote_once (Ok p) (Ok q) d at b d₁ d₂ w v = ap Ok (w.past ∙ sym v.past)
wrote_once (Ok p) (Err _) d at b d₁ d₂ w v = absurd (omega (arith, w.room))
wrote_once (Err _) (Ok q) d at b d₁ d₂ w v = absurd (omega (arith, v.room))
wrote_once (Err _) (Err _) d at b d₁ d₂ w v = refl

pub pool_once : {p q : ℕ} {d : List ℕ} {at : ℕ} {b d₁ d₂ : List ℕ} → Written p d at b d₁ → Written q d at b d₂ → d₁ ≡ d₂
pool_once w v = w.is ∙ sym v.is

-- what is written after what was written
pub wrote_then : (r : Result ℕ NoRoom) {q : ℕ} {d : List ℕ} {at : ℕ} {a d₁ : List ℕ} (b d₂ : List ℕ) → Written q d at a d₁ → WroteBy r d₁ q b d₂ → WroteBy r d at (a ++ b) d₂
wrote_then (Ok p) {q} {d} {at} {a} {d₁} b d₂ w v =
    let n = length-append a b in
    let l = written_length w in
    record {
      past = v.past ∙ ap (λ k. k + length b) w.past ∙ add_assoc at (length a) (length b) ∙ ap (λ k. at + k) (sym n);
      room = omega (arith, v.room, w.past);
      is = v.is ∙ ap (λ x. put x q b) w.is ∙ ap (λ k. put (put d at a) k b) w.past ∙ put_put d at a b w.room;
    }
wrote_then (Err _) {a = a} b d₂ w v = let n = length-append a b in let l = written_length w in omega (arith, w.past)

pub none_then : (d : List ℕ) (at : ℕ) (a b : List ℕ) → length d < at + length a → length d < at + length (a ++ b)
none_then d at a b h = omega (arith, length-append a b)

-- Two texts, one after the other.
module _ (d : List ℕ) (at : ℕ) (a b : List ℕ) (r : Result ℕ NoRoom) (d₁ : List ℕ) (w : WroteBy r d at a d₁) where
  pub two_no_first : r ≡ Err no_room → length d < at + length (a ++ b)
  two_no_first e = none_then d at a b (wrote_none r d at a d₁ w e)

  module _ {m : ℕ} (e : r ≡ Ok m) (r₂ : Result ℕ NoRoom) (d₂ : List ℕ) (v : WroteBy r₂ d₁ m b d₂) where
    first : Written m d at a d₁
    first = wrote_told r d at a d₁ w e

    pub two_no_second : r₂ ≡ Err no_room → length d < at + length (a ++ b)
    two_no_second f = wrote_none r₂ d at (a ++ b) d₂ (wrote_then r₂ b d₂ first v) f

    pub two_done : {q : ℕ} → r₂ ≡ Ok q → TwoAt m q d at a b d₂
    two_done f = record {
      second = first.past;
      next = (wrote_told r₂ d₁ m b d₂ v f).past;
      written = wrote_told r₂ d at (a ++ b) d₂ (wrote_then r₂ b d₂ first v) f;
    }

pub two_told : (r : Result TwoTexts NoRoom) (d : List ℕ) (at : ℕ) (a b d₁ : List ℕ) {x : TwoTexts} → TwoBy r d at a b d₁ → r ≡ Ok x → TwoAt x.second x.next d at a b d₁
two_told r d at a b d₁ w e = rw e at w

pub two_none : (r : Result TwoTexts NoRoom) (d : List ℕ) (at : ℕ) (a b d₁ : List ℕ) → TwoBy r d at a b d₁ → r ≡ Err no_room → length d < at + length (a ++ b)
two_none r d at a b d₁ w e = rw e at w
