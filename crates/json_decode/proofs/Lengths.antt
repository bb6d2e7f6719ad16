-- The length of what a string stands for. Assumes nothing.
use Rattle.std.specs.Prelude.{Some, None}
use mathlib.Core.Path.{◌≡◌, sym, ap}
use mathlib.Core.List.{List, []}
use Prim.Native.Nat.{ℕ, ◌+◌, ◌^◌, ◌≤◌, ◌<◌}
use native.Mathlib.Omega.{arith}
use lib.ListN.{length, drop, length-append}
use mir.Val.{Fits}
use mir.Syntax.{w64}
use borrow.Author.Rules.{rules}
use Rattle.json_grammar.specs.Encode.{utf8}
use Rattle.json_grammar.proofs.EncodeLaws.{utf8_one, utf8_two, utf8_three, utf8_four}
use Rattle.json_grammar.specs.Reader.{piece_of, chars_from}
use Rattle.json_string.specs.declared.string.Piece.{Piece}
use Rattle.json_string.specs.declared.string.Piece.TheVariants.{Byte, Code, Closes, Wrong}
use Rattle.json_decode.specs.Decoded.{decoded_length}
use Rattle.json_string.specs.Inner.Pieces.{Stood, PieceMeans}
use Rattle.json_string.proofs.Strings.{Stringing, coded_told, string_starts, starts_passed, string_cut, stood_on, stood_passed, closed_value, string_closed, string_wrong, byte_falls, code_falls}

module _ (c : ℕ) where
  pub length_one : c < 0x80 → 1 ≡ length (utf8 c)
  length_one h = sym (ap length (utf8_one c h))

  pub length_two : 0x80 ≤ c → c < 0x800 → 2 ≡ length (utf8 c)
  length_two l h = sym (ap length (utf8_two c l h))

  pub length_three : 0x800 ≤ c → c < 0x10000 → 3 ≡ length (utf8 c)
  length_three l h = sym (ap length (utf8_three c l h))

  pub length_four : 0x10000 ≤ c → 4 ≡ length (utf8 c)
  length_four l = sym (ap length (utf8_four c l))

pub ruleset utf8_lengths = (length_one, length_two, length_three, length_four, rules)

-- The bytes that were passed are counted.
pub record Counting (s : List ℕ) (start total at : ℕ) : Type 0 where
  pub string : Stringing s start at
  pub counted : total ≡ length string.passed
  pub few : total ≤ at

pub counting_starts : (s : List ℕ) (start : ℕ) → Counting s start 0 start
counting_starts s start = record { string = string_starts s start; counted = rw (starts_passed s start); few = omega arith }

module _ {s : List ℕ} {start total at : ℕ} (k : Counting s start total at) where
  counts_on : {n : ℕ} {v : List ℕ} → Stood s at n v (piece_of (drop at s)) → Counting s start (total + length v) n
  counts_on {n} {v} m = record {
    string = stood_on k.string m;
    counted = rw (stood_passed k.string m, k.counted) (sym (length-append k.string.passed v));
    few = omega (arith, k.few, m.next, m.room);
  }

  count_fits : {n : ℕ} {v : List ℕ} → length s < 2 ^ 64 → Stood s at n v (piece_of (drop at s)) → Fits w64 (total + length v)
  count_fits b m = omega (arith, k.few, m.next, m.room, m.inside)

  pub count_cut : length s ≤ at → None ≡ decoded_length (chars_from 0 (drop start s))
  count_cut h = sym (rw (string_cut k.string h))

  module _ {t : Piece} (m : PieceMeans s at t (piece_of (drop at s))) where
    pub byte_counts : {b n : ℕ} → t ≡ Byte b n → Counting s start (total + 1) n
    byte_counts e = counts_on (rw e at m)

    pub byte_fits : {b n : ℕ} → length s < 2 ^ 64 → t ≡ Byte b n → Fits w64 (total + 1)
    byte_fits b e = count_fits b (rw e at m)

    pub code_counts : {c n r : ℕ} → t ≡ Code c n → r ≡ length (utf8 c) → Counting s start (total + r) n
    code_counts e f = rw f (counts_on (coded_told e m).stood)

    pub code_fits : {c n r : ℕ} → length s < 2 ^ 64 → t ≡ Code c n → r ≡ length (utf8 c) → Fits w64 (total + r)
    code_fits b e f = rw f (count_fits b (coded_told e m).stood)

    pub count_closed : {n : ℕ} → t ≡ Closes n → Some total ≡ decoded_length (chars_from 0 (drop start s))
    count_closed e =
        let r = string_closed k.string m e in
        sym (rw r.reads (ap Some (rw (closed_value k.string m e, length-append k.string.passed []) (omega (arith, k.counted)))))

    pub count_wrong : t ≡ Wrong → None ≡ decoded_length (chars_from 0 (drop start s))
    count_wrong e = sym (rw (string_wrong k.string m e))

pub ruleset counting =
    (counting_starts, count_cut, byte_counts, byte_fits, code_counts, code_fits, count_closed, count_wrong, byte_falls, code_falls, rules)
