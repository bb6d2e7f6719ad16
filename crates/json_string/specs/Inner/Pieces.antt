-- What stands at a place inside a string, in terms of RFC 8259's reader on lists.
use Rattle.std.specs.Prelude.{◌≡◌, List, [], ◌∷◌, ℕ, suc, ◌+◌, ◌≤◌, ◌<◌, eqb, length}
use Rattle.ground.specs.Choice.{pick}
use Rattle.json_grammar.specs.Encode.{utf8}
use Rattle.json_grammar.specs.Reader as Reader
use Rattle.json_string.specs.declared.string.Piece.{Piece}
use Rattle.json_string.specs.declared.string.Piece.TheVariants.{Byte, Code, Closes, Wrong}

-- a char from the place `base` up to `n`, which stands for the bytes `v`
pub record Stood (s : List ℕ) (base n : ℕ) (v : List ℕ) (p : Reader.Piece) : Type 0 where
  pub size : ℕ
  pub is : p ≡ Reader.stands v size
  pub next : n ≡ base + suc size
  pub inside : n ≤ length s
  -- no char stands for more bytes than it takes
  pub room : length v ≤ suc size

-- a char from the place `base` up to `n`, which stands for a code point above 7F
pub record Coded (s : List ℕ) (base n c : ℕ) (p : Reader.Piece) : Type 0 where
  pub stood : Stood s base n (utf8 c) p
  pub several : 0x80 ≤ c
  pub known : c < 0x110000

pub record Closed (s : List ℕ) (base n : ℕ) (p : Reader.Piece) : Type 0 where
  pub is : p ≡ Reader.closes
  pub next : n ≡ base + 1
  pub inside : n ≤ length s

-- the answer `r` says of the char at the place `base` of the text `s` what the reader's answer `p` does
abbrev pub PieceMeans : List ℕ → ℕ → Piece → Reader.Piece → Type 0
PieceMeans s base (Byte b n) p = Stood s base n (b ∷ []) p
PieceMeans s base (Code c n) p = Coded s base n c p
PieceMeans s base (Closes n) p = Closed s base n p
PieceMeans s base Wrong p = p ≡ Reader.wrong

-- the byte that a short escape stands for, by its second character; 0 where there is none
abbrev pub short_byte : ℕ → ℕ
short_byte x =
    pick (eqb x 0x22) 0x22 (pick (eqb x 0x5C) 0x5C (pick (eqb x 0x2F) 0x2F (pick (eqb x 0x62) 0x08
    (pick (eqb x 0x66) 0x0C (pick (eqb x 0x6E) 0x0A (pick (eqb x 0x72) 0x0D (pick (eqb x 0x74) 0x09 0)))))))
