-- RFC 3629, section 4, "Syntax of UTF-8 Byte Sequences", line by line, as statements about texts.
use Rattle.std.specs.Prelude.{◌≡◌, List, ◌++◌, ◌↔◌, ◌⊎◌, ℕ, ◌≤◌, ◌<◌, length, take, drop}
use Rattle.ground.specs.Abnf.{Kind, Octet, ◌⊹◌, ◌∣◌, Star}

-- UTF8-tail   = %x80-BF
abbrev pub Utf8Tail : Kind
Utf8Tail = Octet 0x80 0xBF

-- UTF8-1      = %x00-7F
abbrev pub Utf8_1 : Kind
Utf8_1 = Octet 0x00 0x7F

-- UTF8-2      = %xC2-DF UTF8-tail
abbrev pub Utf8_2 : Kind
Utf8_2 = Octet 0xC2 0xDF ⊹ Utf8Tail

-- UTF8-3      = %xE0 %xA0-BF UTF8-tail / %xE1-EC 2( UTF8-tail ) / %xED %x80-9F UTF8-tail / %xEE-EF 2( UTF8-tail )
abbrev pub Utf8_3 : Kind
Utf8_3 =
    Octet 0xE0 0xE0 ⊹ Octet 0xA0 0xBF ⊹ Utf8Tail ∣ Octet 0xE1 0xEC ⊹ Utf8Tail ⊹ Utf8Tail ∣
    Octet 0xED 0xED ⊹ Octet 0x80 0x9F ⊹ Utf8Tail ∣ Octet 0xEE 0xEF ⊹ Utf8Tail ⊹ Utf8Tail

-- UTF8-4      = %xF0 %x90-BF 2( UTF8-tail ) / %xF1-F3 3( UTF8-tail ) / %xF4 %x80-8F 2( UTF8-tail )
abbrev pub Utf8_4 : Kind
Utf8_4 =
    Octet 0xF0 0xF0 ⊹ Octet 0x90 0xBF ⊹ Utf8Tail ⊹ Utf8Tail ∣ Octet 0xF1 0xF3 ⊹ Utf8Tail ⊹ Utf8Tail ⊹ Utf8Tail ∣
    Octet 0xF4 0xF4 ⊹ Octet 0x80 0x8F ⊹ Utf8Tail ⊹ Utf8Tail

-- UTF8-char   = UTF8-1 / UTF8-2 / UTF8-3 / UTF8-4
abbrev pub Utf8Char : Kind
Utf8Char = Utf8_1 ∣ Utf8_2 ∣ Utf8_3 ∣ Utf8_4

-- UTF8-octets = *( UTF8-char )
abbrev pub Utf8Octets : Kind
Utf8Octets = Star Utf8Char

-- Document 01, refusal 2: the place is "valid bytes before it". They are UTF8-octets, and no UTF8-char stands after them.
pub record Breaks (s : List ℕ) (at : ℕ) : Type 0 where
  pub inside : at < length s
  pub before : Utf8Octets (take at s)
  pub after : (a r : List ℕ) → Utf8Char a → drop at s ≡ a ++ r → ⊥

-- "the length is the longest start of a good sequence": a text that can be followed by others to a UTF8-char
abbrev pub StartsChar : List ℕ → Type 0
StartsChar a = (b : List ℕ) × Utf8Char (a ++ b)

-- "at least 1; 0 if the text ends in one": of the bytes `s` from the bad sequence on
pub record LongestStart (s : List ℕ) (n : ℕ) : Type 0 where
  pub cut : (n ≡ 0) ↔ StartsChar s
  pub starts : 0 < n → StartsChar (take n s) ⊎ ((n ≡ 1) × (StartsChar (take 1 s) → ⊥))
  pub longest : 0 < n → (k : ℕ) → n < k → StartsChar (take k s) → ⊥
  pub inside : n ≤ length s
