-- A string's bytes in a lent slice: what was passed has been written. Assumes nothing.
use Rattle.std.specs.Prelude.{Option, Some, None, Result, Ok, Err}
use mathlib.Core.Path.{◌≡◌, refl, sym, ◌∙◌, ap}
use mathlib.Core.Bool.{Bool, true, false}
use mathlib.Core.List.{List, [], ◌∷◌, append-nil}
use Prim.Native.Nat.{ℕ, ◌+◌, ◌-◌, ◌^◌, ◌≤◌, ◌<◌}
use native.Mathlib.Nat.{add_assoc, add-zero}
use native.Mathlib.Omega.{arith}
use lib.Dec.{leb}
use lib.ListN.{length, drop, set, length-append}
use mir.Val.{Fits}
use mir.Syntax.{w64}
use borrow.Author.Tests.{le-leb, lt-leb, leb-true}
use borrow.Author.Rules.{rules}
use Rattle.ground.specs.Choice.{pick}
use Rattle.ground.specs.Put.{put}
use Rattle.ground.proofs.PutLaws.{put_nothing, put_one, put_put, length_put}
use Rattle.json_grammar.specs.Encode.{utf8}
use Rattle.json_grammar.specs.Reader.{Out, got, bad, and_then, piece_of, chars_from}
use Rattle.json_grammar.proofs.Took.{same_value, never_bad}
use Rattle.json_grammar.proofs.Items.{before}
use Rattle.json_string.specs.declared.string.Piece.{Piece}
use Rattle.json_string.specs.declared.string.Piece.TheVariants.{Byte, Code, Closes, Wrong}
use Rattle.json_string.specs.Inner.Pieces.{Stood, PieceMeans}
use Rattle.json_string.proofs.Strings.{Stringing, coded_told, string_starts, starts_passed, string_cut, stood_on, stood_passed, closed_value, string_closed, string_wrong, byte_falls, code_falls}
use Rattle.json_decode.specs.Decoded.{decoded_length, decoded, written_of, room_of}
use Rattle.json_decode.specs.Inner.Octets.{Fitting}
use Rattle.json_decode.proofs.Comparing.{code_small, code_large}
use Rattle.json_decode.specs.declared.write.WriteError.{WriteError}
use Rattle.json_decode.specs.declared.write.WriteError.TheVariants.{NoRoom, NoString}

-- what stands before a string's rest is no longer than all of it
before_fits : (a : List ℕ) (o : Out (List ℕ)) {v r : List ℕ} → before a o ≡ got v r → length a ≤ length v
unfolding and_then
before_fits a (got w q) e = rw (← same_value e, length-append a w) (omega arith)
before_fits a bad e = never_bad e

pub record Writing (s : List ℕ) (start : ℕ) (d : List ℕ) (at : ℕ) (room : List ℕ) (to from : ℕ) : Type 0 where
  pub string : Stringing s start from
  pub reached : to ≡ at + length string.passed
  pub is : room ≡ put d at string.passed
  pub size : length room ≡ length d

pub writing_starts : (s : List ℕ) (start : ℕ) (d : List ℕ) (at : ℕ) → Writing s start d at d at start
writing_starts s start d at = record {
  string = string_starts s start;
  reached = rw (starts_passed s start) (sym (add-zero at));
  is = rw (starts_passed s start) (sym (put_nothing d at));
  size = refl;
}

module _ {s : List ℕ} {start : ℕ} {d : List ℕ} {at : ℕ} (f : Fitting (chars_from 0 (drop start s)) at (length d)) {room : List ℕ} {to from : ℕ} (k : Writing s start d at room to from) where
  never_cut : {A : Type 0} → chars_from 0 (drop start s) ≡ bad → A
  never_cut e = never_bad (sym e ∙ f.reads)

  pub write_cut : length s ≤ from → room ≡ put d at (decoded (chars_from 0 (drop start s)))
  write_cut h = never_cut (string_cut k.string h)

  -- what a char stands for fits
  fits_on : {n : ℕ} {v : List ℕ} → Stood s from n v (piece_of (drop from s)) → to + length v ≤ length room
  fits_on {n} {v} m =
      let b = before_fits (stood_on k.string m).passed (chars_from 0 (drop n s)) (sym (stood_on k.string m).decides ∙ f.reads) in
      let c : length (stood_on k.string m).passed ≡ length k.string.passed + length v = ap length (stood_passed k.string m) ∙ length-append k.string.passed v in
      omega (arith, k.reached, k.size, f.fits)

  writes_on : {n : ℕ} {v : List ℕ} → Stood s from n v (piece_of (drop from s)) → Writing s start d at (put room to v) (to + length v) n
  writes_on {n} {v} m = record {
    string = stood_on k.string m;
    reached = rw (stood_passed k.string m, length-append k.string.passed v, ← add_assoc at (length k.string.passed) (length v), ← k.reached);
    is = rw (stood_passed k.string m, k.reached, k.is) (put_put d at k.string.passed v (let g = fits_on m in omega (arith, k.reached, k.size)));
    size = length_put room to v (fits_on m) ∙ k.size;
  }

  module _ {t : Piece} (m : PieceMeans s from t (piece_of (drop from s))) where
    module _ {b n : ℕ} (e : t ≡ Byte b n) where
      here : Stood s from n (b ∷ []) (piece_of (drop from s))
      here = rw e at m

      pub write_inside : to < length room
      write_inside = let g = fits_on here in omega arith

      pub byte_fits : length d < 2 ^ 64 → Fits w64 (to + 1)
      byte_fits z = let g = fits_on here in omega (arith, k.size)

      pub write_byte : Writing s start d at (set room to b) (to + 1) n
      write_byte = rw (put_one room to b write_inside) at (writes_on {n = n} {v = b ∷ []} here)

    module _ {c n : ℕ} (e : t ≡ Code c n) where
      pub write_room : to + length (utf8 c) ≤ length room
      write_room = fits_on (coded_told e m).stood

      pub code_fits : {z : ℕ} → z ≡ length (utf8 c) → length d < 2 ^ 64 → Fits w64 (to + z)
      code_fits z b = let g = write_room in omega (arith, k.size)

      pub write_code : {z : ℕ} {after : List ℕ} → after ≡ put room to (utf8 c) → z ≡ length (utf8 c) → Writing s start d at after (to + z) n
      write_code p z = rw (p, z) (writes_on (coded_told e m).stood)

    pub write_closed : {n : ℕ} → t ≡ Closes n → room ≡ put d at (decoded (chars_from 0 (drop start s)))
    write_closed e =
        let r = string_closed k.string m e in
        let v : r.value ≡ k.string.passed = closed_value k.string m e ∙ append-nil k.string.passed in
        k.is ∙ ap (put d at) (sym v ∙ sym (ap decoded r.reads))

    pub write_wrong : t ≡ Wrong → room ≡ put d at (decoded (chars_from 0 (drop start s)))
    write_wrong e = never_cut (string_wrong k.string m e)

pub ruleset writing = (writing_starts, write_cut, write_inside, byte_fits, write_byte, write_room, code_fits, write_code, code_small, code_large, write_closed, write_wrong, byte_falls, code_falls, rules)

-- Whether there is a string and room for it.
pub no_string : (o : Out (List ℕ)) (at n : ℕ) {b : Option ℕ} → b ≡ decoded_length o → b ≡ None → Err NoString ≡ written_of o at n
no_string (got v r) at n e f = absurd (let z : ◌≡◌ {A = ℕ} 0 1 = cc in omega arith)
no_string bad at n e f = refl

pub no_string_room : (o : Out (List ℕ)) (at : ℕ) (d : List ℕ) {b : Option ℕ} → b ≡ decoded_length o → b ≡ None → d ≡ room_of o at d
no_string_room (got v r) at d e f = absurd (let z : ◌≡◌ {A = ℕ} 0 1 = cc in omega arith)
no_string_room bad at d e f = refl

-- the answers where there is no room
over : (v : List ℕ) (at n : ℕ) → n < at + length v → leb (at + length v) n ≡ false
over v at n h = lt-leb (at + length v) n h

told : (o : Out (List ℕ)) {b : Option ℕ} {m : ℕ} → b ≡ decoded_length o → b ≡ Some m → (v : List ℕ) × (r : List ℕ) × (o ≡ got v r) × (length v ≡ m)
told (got v r) e f = (v, r, refl, cc)
told bad e f = absurd (let z : ◌≡◌ {A = ℕ} 0 1 = cc in omega arith)

module _ (o : Out (List ℕ)) (at : ℕ) (d : List ℕ) {b : Option ℕ} {m : ℕ} (e : b ≡ decoded_length o) (f : b ≡ Some m) where
  no_room_as : length d < at + m → (Err NoRoom ≡ written_of o at (length d)) × (d ≡ room_of o at d)
  no_room_as h =
      let (v, r, g, l) = told o e f in
      let out : leb (at + length v) (length d) ≡ false = over v at (length d) (rw l h) in
      (sym (rw (g, out)), sym (rw (g, out)))

  pub beyond : length d < at → Err NoRoom ≡ written_of o at (length d)
  beyond h = (no_room_as (omega arith)).0

  pub beyond_room : length d < at → d ≡ room_of o at d
  beyond_room h = (no_room_as (omega arith)).1

  pub short : at ≤ length d → length d - at < m → Err NoRoom ≡ written_of o at (length d)
  short i h = (no_room_as (omega arith)).0

  pub short_room : at ≤ length d → length d - at < m → d ≡ room_of o at d
  short_room i h = (no_room_as (omega arith)).1

  module _ (i : at ≤ length d) (h : m ≤ length d - at) where
    pub has_room : Fitting o at (length d)
    has_room = let (v, r, g, l) = told o e f in record { value = v; rest = r; reads = g; fits = rw l (omega arith) }

    pub done : Ok (at + m) ≡ written_of o at (length d)
    done =
        let (v, r, g, l) = told o e f in
        let yes_room : leb (at + length v) (length d) ≡ true = le-leb (at + length v) (length d) (rw l (omega arith)) in
        sym (rw (g, yes_room, l))

    pub done_room : {after : List ℕ} → after ≡ put d at (decoded o) → after ≡ room_of o at d
    done_room p =
        let (v, r, g, l) = told o e f in
        let yes_room : leb (at + length v) (length d) ≡ true = le-leb (at + length v) (length d) (rw l (omega arith)) in
        p ∙ sym (rw (g, yes_room))

    pub end_fits : length d < 2 ^ 64 → Fits w64 (at + m)
    end_fits z = omega arith

pub ruleset deciding = (no_string, no_string_room, beyond, beyond_room, short, short_room, has_room, done, done_room, end_fits, rules)

-- what is written ends inside the room
ends_inside : (o : Out (List ℕ)) (at : ℕ) (d : List ℕ) {n : ℕ} → written_of o at (length d) ≡ Ok n → n ≤ length (room_of o at d)
ends_inside (got v r) at d {n} = go (leb (at + length v) (length d)) refl
  where
    go : (b : Bool) → leb (at + length v) (length d) ≡ b → pick b (Ok (at + length v)) (Err NoRoom) ≡ Ok n →
        n ≤ length (pick b (put d at v) d)
    go true p e =
        let h = leb-true (at + length v) (length d) p in
        let same : at + length v ≡ n = cc in
        rw (length_put d at v h) (omega arith)
    go false p e = absurd (let z : ◌≡◌ {A = ℕ} 0 1 = cc in omega arith)
ends_inside bad at d = λ e. absurd (let z : ◌≡◌ {A = ℕ} 0 1 = cc in omega arith)

pub decoded_inside : (o : Out (List ℕ)) (at : ℕ) (d : List ℕ) {n : ℕ} {t : Result ℕ WriteError} {after : List ℕ} →
    t ≡ written_of o at (length d) → after ≡ room_of o at d → t ≡ Ok n → n ≤ length after
decoded_inside o at d e f g = rw f (ends_inside o at d (sym e ∙ g))
