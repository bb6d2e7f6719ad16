-- Chars of a string, by places. Assumes nothing.
use mathlib.Core.Path.{◌≡◌, refl, ◌∙◌}
use mathlib.Core.Bool.{Bool, true, false}
use mathlib.Core.List.{List, [], ◌∷◌}
use Prim.Native.Nat.{ℕ, suc, ◌+◌, ◌*◌, ◌-◌, ◌^◌, ◌≤◌, ◌<◌}
use native.Mathlib.Numerals.{add-one}
use native.Mathlib.Omega.{arith}
use lib.Dec.{eqb}
use lib.ListN.{length, get_or, drop, length-drop, drop_of_length-le}
use lib.Seq.{drop-cons, drop-drop}
use mir.Val.{Fits}
use mir.Syntax.{w8, w64}
use borrow.Author.Tests.{eq-eqb, ne_eqb}
use borrow.Author.Rules.{rules}
use Rattle.ground.specs.Choice.{pick, within}
use Rattle.ground.proofs.Cases.{cases, within_yes, within_low, within_high}
use Rattle.ground.proofs.Parts.{drop_here}
use Rattle.json_grammar.specs.Encode.{utf8}
use Rattle.json_grammar.specs.Reader as Reader
use Rattle.json_grammar.specs.Reader.{hex4, second, unicode, short_escape, escape, piece_of}
use Rattle.json_grammar.proofs.EncodeLaws.{utf8_one, utf8_short}
use Rattle.json_string.proofs.Hex.{hex4_most}
use Rattle.json_string.specs.declared.string.Piece.{Piece}
use Rattle.json_string.specs.Inner.Pieces.{Stood, Coded, Closed, PieceMeans, short_byte}

pub ruleset by_byte = (cases, rules)

-- an answer about what is the same
piece_as : (s : List ℕ) (base : ℕ) (r : Piece) {p q : Reader.Piece} → q ≡ p → PieceMeans s base r p → PieceMeans s base r q
piece_as s base r e m = rw e m

-- where four digits read there are four
long_enough : (l : List ℕ) → hex4 l < 65536 → 4 ≤ length l
unfolding hex4
long_enough [] h = absurd (omega arith)
long_enough (x ∷ []) h = absurd (omega arith)
long_enough (x ∷ y ∷ []) h = absurd (omega arith)
long_enough (x ∷ y ∷ z ∷ []) h = absurd (omega arith)
long_enough (x ∷ y ∷ z ∷ w ∷ l) h = omega arith

four_inside : (s : List ℕ) (at : ℕ) → hex4 (drop at s) < 65536 → at ≤ length s → at + 4 ≤ length s
four_inside s at h i = let l = long_enough (drop at s) h in omega (arith, length-drop at s)

no_second : (u : ℕ) (l : List ℕ) → length l < 2 → second u l ≡ Reader.wrong
unfolding second
no_second u [] h = refl
no_second u (x ∷ []) h = refl
no_second u (x ∷ (y ∷ l)) h = absurd (omega arith)

-- The low surrogate of a pair.
module _ (s : List ℕ) (base high : ℕ) (i : base + 6 ≤ length s) where
  pub second_short : length s - (base + 6) < 2 → second high (drop (base + 6) s) ≡ Reader.wrong
  second_short h = no_second high (drop (base + 6) s) (rw length-drop h)

  module _ (h : 2 ≤ length s - (base + 6)) where
    two_here : drop (base + 6) s ≡ get_or s (base + 6) 0 ∷ (get_or s (base + 6 + 1) 0 ∷ drop (base + 6 + 2) s)
    two_here =
        let e : suc (base + 6 + 1) ≡ base + 6 + 2 = omega arith in
        rw (drop-cons s (base + 6) 0 (omega arith), ← add-one (base + 6), drop-cons s (base + 6 + 1) 0 (omega arith), e)

    pub second_no_escape : (get_or s (base + 6) 0 ≡ 0x5C → ⊥) → second high (drop (base + 6) s) ≡ Reader.wrong
    unfolding second
    second_no_escape n = rw (two_here, ne_eqb (get_or s (base + 6) 0) 0x5C n)

    module _ (e : get_or s (base + 6) 0 ≡ 0x5C) where
      pub second_no_u : (get_or s (base + 6 + 1) 0 ≡ 0x75 → ⊥) → second high (drop (base + 6) s) ≡ Reader.wrong
      unfolding second
      second_no_u n = rw (two_here, eq-eqb (get_or s (base + 6) 0) 0x5C e, ne_eqb (get_or s (base + 6 + 1) 0) 0x75 n)

      module _ (f : get_or s (base + 6 + 1) 0 ≡ 0x75) {low : ℕ} (g : low ≡ hex4 (drop (base + 6 + 2) s)) where
        seen : second high (drop (base + 6) s) ≡ pick (within 0xDC00 0xDFFF low) (Reader.stands (utf8 (0x10000 + (high - 0xD800) * 0x400 + (low - 0xDC00))) 11) Reader.wrong
        unfolding second
        seen = rw (two_here, eq-eqb (get_or s (base + 6) 0) 0x5C e, eq-eqb (get_or s (base + 6 + 1) 0) 0x75 f, ← g)

        pub second_low : low < 0xDC00 → second high (drop (base + 6) s) ≡ Reader.wrong
        second_low l = seen ∙ rw (within_low 0xDC00 0xDFFF low l)

        pub second_high : 0xDFFF < low → second high (drop (base + 6) s) ≡ Reader.wrong
        second_high l = seen ∙ rw (within_high 0xDC00 0xDFFF low l)

        module _ (l : 0xDC00 ≤ low) (u : low ≤ 0xDFFF) where
          inside : base + 12 ≤ length s
          inside = let k = four_inside s (base + 6 + 2) (rw (← g) (omega arith)) (omega arith) in omega arith

          stood : Stood s base (base + 6 + 6) (utf8 (0x10000 + (high - 0xD800) * 0x400 + (low - 0xDC00))) (second high (drop (base + 6) s))
          stood = record {
            size = 11;
            is = seen ∙ rw (within_yes 0xDC00 0xDFFF low l u);
            next = omega arith;
            inside = let k = inside in omega arith;
            room = let c = utf8_short (0x10000 + (high - 0xD800) * 0x400 + (low - 0xDC00)) in omega arith;
          }

          pub second_stood : high ≤ 0xDBFF → Coded s base (base + 6 + 6) (0x10000 + (high - 0xD800) * 0x400 + (low - 0xDC00)) (second high (drop (base + 6) s))
          second_stood most = record { stood = stood; several = omega arith; known = omega arith }

          pub second_fits : length s < 2 ^ 64 → Fits w64 (base + 6 + 6)
          second_fits b = let k = inside in omega arith

pub ruleset seconds = (second_short, second_no_escape, second_no_u, second_low, second_high, second_stood, second_fits, rules)

-- A code point by four digits.
module _ (s : List ℕ) (base : ℕ) (i : base + 2 ≤ length s) {code : ℕ} (g : code ≡ hex4 (drop (base + 2) s)) where
  whole : unicode (drop (base + 2) s) ≡
      pick (eqb code 65536) Reader.wrong (pick (within 0xD800 0xDBFF code) (second code (drop 4 (drop (base + 2) s))) (pick (within 0xDC00 0xDFFF code) Reader.wrong (Reader.stands (utf8 code) 5)))
  unfolding unicode
  whole = rw (← g)

  pub unicode_none : code ≡ 65536 → unicode (drop (base + 2) s) ≡ Reader.wrong
  unicode_none e = whole ∙ rw (eq-eqb code 65536 e)

  module _ (n : code ≡ 65536 → ⊥) where
    fits : code < 65536
    fits = let m = hex4_most (drop (base + 2) s) in omega arith

    pub unicode_inside : base + 6 ≤ length s
    unicode_inside = let k = four_inside s (base + 2) (rw (← g) fits) i in omega arith

    pub unicode_fits : length s < 2 ^ 64 → Fits w64 (base + 6)
    unicode_fits b = let k = unicode_inside in omega arith

    alone : within 0xD800 0xDBFF code ≡ false → within 0xDC00 0xDFFF code ≡ false → Stood s base (base + 6) (utf8 code) (unicode (drop (base + 2) s))
    alone p q = record { size = 5; is = whole ∙ rw (ne_eqb code 65536 n, p, q); next = omega arith; inside = unicode_inside; room = let c = utf8_short code in omega arith }

    below : code < 0xD800 → Stood s base (base + 6) (utf8 code) (unicode (drop (base + 2) s))
    below l = alone (within_low 0xD800 0xDBFF code l) (within_low 0xDC00 0xDFFF code (omega arith))

    pub unicode_one : code < 0x80 → Stood s base (base + 6) (code ∷ []) (unicode (drop (base + 2) s))
    unicode_one l = rw (utf8_one code l) at below (omega arith)

    pub unicode_below : 0x80 ≤ code → code < 0xD800 → Coded s base (base + 6) code (unicode (drop (base + 2) s))
    unicode_below l h = record { stood = below h; several = l; known = omega arith }

    pub unicode_above : 0xDFFF < code → Coded s base (base + 6) code (unicode (drop (base + 2) s))
    unicode_above l = record {
      stood = alone (within_high 0xD800 0xDBFF code (omega arith)) (within_high 0xDC00 0xDFFF code l);
      several = omega arith;
      known = let k = fits in omega arith;
    }

    pub unicode_pair : 0xD800 ≤ code → code ≤ 0xDBFF → (r : Piece) → PieceMeans s base r (second code (drop (base + 6) s)) → PieceMeans s base r (unicode (drop (base + 2) s))
    unicode_pair l u r m =
        let e : base + 2 + 4 ≡ base + 6 = omega arith in
        piece_as s base r (whole ∙ rw (ne_eqb code 65536 n, within_yes 0xD800 0xDBFF code l u, drop-drop 4 (base + 2) s, e)) m

    pub unicode_lone : 0xDBFF < code → code ≤ 0xDFFF → unicode (drop (base + 2) s) ≡ Reader.wrong
    unicode_lone l u = whole ∙ rw (ne_eqb code 65536 n, within_high 0xD800 0xDBFF code l, within_yes 0xDC00 0xDFFF code l u)

pub ruleset unicodes = (unicode_none, unicode_inside, unicode_fits, unicode_one, unicode_below, unicode_above, unicode_pair, unicode_lone, rules)

-- Escapes.
row : (t : Bool) (b n : ℕ) {p : Reader.Piece} → eqb b 0 ≡ false → p ≡ pick (eqb n 0) Reader.wrong (Reader.stands (n ∷ []) 1) →
    pick t (Reader.stands (b ∷ []) 1) p ≡ pick (eqb (pick t b n) 0) Reader.wrong (Reader.stands (pick t b n ∷ []) 1)
row true b n f e = rw f
row false b n f e = e

by_short : (x : ℕ) → short_escape x ≡ pick (eqb (short_byte x) 0) Reader.wrong (Reader.stands (short_byte x ∷ []) 1)
unfolding short_escape
by_short x =
    row (eqb x 0x22) 0x22 _ refl (row (eqb x 0x5C) 0x5C _ refl (row (eqb x 0x2F) 0x2F _ refl (row (eqb x 0x62) 0x08 _ refl
    (row (eqb x 0x66) 0x0C _ refl (row (eqb x 0x6E) 0x0A _ refl (row (eqb x 0x72) 0x0D _ refl (row (eqb x 0x74) 0x09 _ refl refl)))))))

module _ (s : List ℕ) (base : ℕ) where
  pub escape_end : length s ≤ base + 1 → escape (drop (base + 1) s) ≡ Reader.wrong
  unfolding escape
  escape_end h = rw (drop_of_length-le s h)

  module _ (h : base + 1 < length s) where
    next_here : drop (base + 1) s ≡ get_or s (base + 1) 0 ∷ drop (base + 2) s
    next_here = let e : suc (base + 1) ≡ base + 2 = omega arith in rw (drop-cons s (base + 1) 0 h, e)

    pub escape_room : base + 2 ≤ length s
    escape_room = omega arith

    pub escape_unicode : get_or s (base + 1) 0 ≡ 0x75 → (r : Piece) → PieceMeans s base r (unicode (drop (base + 2) s)) → PieceMeans s base r (escape (drop (base + 1) s))
    unfolding escape
    escape_unicode e r m = piece_as s base r (rw (next_here, eq-eqb (get_or s (base + 1) 0) 0x75 e)) m

    module _ (n : get_or s (base + 1) 0 ≡ 0x75 → ⊥) {byte : ℕ} (b : byte ≡ short_byte (get_or s (base + 1) 0)) where
      small : escape (drop (base + 1) s) ≡ pick (eqb byte 0) Reader.wrong (Reader.stands (byte ∷ []) 1)
      unfolding escape
      small = rw (next_here, ne_eqb (get_or s (base + 1) 0) 0x75 n, b) (by_short (get_or s (base + 1) 0))

      pub escape_wrong : byte ≡ 0 → escape (drop (base + 1) s) ≡ Reader.wrong
      escape_wrong z = small ∙ rw (eq-eqb byte 0 z)

      pub escape_short : (byte ≡ 0 → ⊥) → Stood s base (base + 1 + 1) (byte ∷ []) (escape (drop (base + 1) s))
      escape_short z = record { size = 1; is = small ∙ rw (ne_eqb byte 0 z); next = omega arith; inside = omega arith; room = omega arith }

pub ruleset escapes = (escape_end, escape_room, escape_unicode, escape_wrong, escape_short, rules)

-- What stands at a place.
pub piece_end : (s : List ℕ) (at : ℕ) → length s ≤ at → piece_of (drop at s) ≡ Reader.wrong
unfolding piece_of
piece_end s at h = rw (drop_of_length-le s h)

module _ (s : List ℕ) (at : ℕ) (h : at < length s) where
  pub piece_closes : get_or s at 0 ≡ 0x22 → Closed s at (at + 1) (piece_of (drop at s))
  unfolding piece_of
  piece_closes e = record { is = rw (drop_here s at h, eq-eqb (get_or s at 0) 0x22 e); next = refl; inside = omega arith }

  module _ (n : get_or s at 0 ≡ 0x22 → ⊥) where
    pub piece_escape : get_or s at 0 ≡ 0x5C → (r : Piece) → PieceMeans s at r (escape (drop (at + 1) s)) → PieceMeans s at r (piece_of (drop at s))
    unfolding piece_of
    piece_escape e r m = piece_as s at r (rw (drop_here s at h, ne_eqb (get_or s at 0) 0x22 n, eq-eqb (get_or s at 0) 0x5C e)) m

    module _ (k : get_or s at 0 ≡ 0x5C → ⊥) where
      pub piece_control : get_or s at 0 < 0x20 → piece_of (drop at s) ≡ Reader.wrong
      unfolding piece_of
      piece_control l = rw (drop_here s at h, ne_eqb (get_or s at 0) 0x22 n, ne_eqb (get_or s at 0) 0x5C k, within_low 0x20 0xFF (get_or s at 0) l)

      pub piece_plain : ((i : ℕ) → Fits w8 (get_or s i 0)) → 0x20 ≤ get_or s at 0 → Stood s at (at + 1) (get_or s at 0 ∷ []) (piece_of (drop at s))
      unfolding piece_of
      piece_plain b l = record {
        size = 0;
        is = rw (drop_here s at h, ne_eqb (get_or s at 0) 0x22 n, ne_eqb (get_or s at 0) 0x5C k, within_yes 0x20 0xFF (get_or s at 0) l (omega (arith, b at)));
        next = omega arith;
        inside = omega arith;
        room = omega arith;
      }

pub ruleset pieces_here = (piece_end, piece_closes, piece_escape, piece_control, piece_plain, rules)
