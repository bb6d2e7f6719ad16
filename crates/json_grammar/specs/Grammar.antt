-- RFC 8259, sections 2 to 7, production by production and named as there, as statements about texts. A production that has a
-- meaning here has it as a second index: a string the bytes that it stands for, an object its members.
--
-- The RFC counts in characters, and these are the octets of UTF-8 text: an octet from 80 on belongs to a character above 7F,
-- which `unescaped` has.
use Rattle.std.specs.Prelude.{◌≡◌, true, false, List, [], ◌∷◌, ◌++◌, ℕ, zero, suc, ◌+◌, ◌*◌, ◌-◌}
use Rattle.ground.specs.Abnf.{Kind, Octet, ◌⊹◌, ◌∣◌, Opt, Exactly, Star}
use Rattle.ground.specs.Ascii.{ascii}
use Rattle.ground.specs.Choice.{within}
use Rattle.json_grammar.specs.Encode.{utf8}

-- Section 2. ws = *( %x20 / %x09 / %x0A / %x0D )
abbrev pub Ws : Kind
Ws = Star (Octet 0x20 0x20 ∣ Octet 0x09 0x09 ∣ Octet 0x0A 0x0A ∣ Octet 0x0D 0x0D)

-- "the six structural characters", each with ws before and after
abbrev pub Structural : ℕ → Kind
Structural x = Ws ⊹ Octet x x ⊹ Ws

abbrev pub begin_array : Kind
begin_array = Structural 0x5B

abbrev pub begin_object : Kind
begin_object = Structural 0x7B

abbrev pub end_array : Kind
end_array = Structural 0x5D

abbrev pub end_object : Kind
end_object = Structural 0x7D

abbrev pub name_separator : Kind
name_separator = Structural 0x3A

abbrev pub value_separator : Kind
value_separator = Structural 0x2C

-- Section 3. The three literal names
abbrev pub LiteralName : Kind
LiteralName = Exactly (ascii "false") ∣ Exactly (ascii "null") ∣ Exactly (ascii "true")

-- Section 6. number = [ minus ] int [ frac ] [ exp ]
abbrev pub Digit : Kind
Digit = Octet 0x30 0x39

-- int = zero / ( digit1-9 *DIGIT )
abbrev pub Int : Kind
Int = Octet 0x30 0x30 ∣ Octet 0x31 0x39 ⊹ Star Digit

-- frac = decimal-point 1*DIGIT
abbrev pub Frac : Kind
Frac = Octet 0x2E 0x2E ⊹ Digit ⊹ Star Digit

-- exp = e [ minus / plus ] 1*DIGIT; e = %x65 / %x45
abbrev pub Exp : Kind
Exp = (Octet 0x65 0x65 ∣ Octet 0x45 0x45) ⊹ Opt (Octet 0x2D 0x2D ∣ Octet 0x2B 0x2B) ⊹ Digit ⊹ Star Digit

abbrev pub Number : Kind
Number = Opt (Octet 0x2D 0x2D) ⊹ Int ⊹ Opt Frac ⊹ Opt Exp

-- Section 7. HEXDIG of RFC 5234, which takes either case, with its value
pub data Hexdig : ℕ → ℕ → Type 0 where
  digit : (x : ℕ) → within 0x30 0x39 x ≡ true → Hexdig x (x - 0x30)
  upper : (x : ℕ) → within 0x41 0x46 x ≡ true → Hexdig x (x - 0x37)
  lower : (x : ℕ) → within 0x61 0x66 x ≡ true → Hexdig x (x - 0x57)

-- %x75 4HEXDIG, after the escape, with the value of the four digits
pub data Unicode : List ℕ → ℕ → Type 0 where
  u4 : {x y z w a b c d : ℕ} → Hexdig x a → Hexdig y b → Hexdig z c → Hexdig w d →
      Unicode (0x5C ∷ 0x75 ∷ x ∷ y ∷ z ∷ w ∷ []) (((a * 16 + b) * 16 + c) * 16 + d)

-- the escapes of two characters, with what they stand for
pub data ShortEscape : ℕ → ℕ → Type 0 where
  quotation_mark : ShortEscape 0x22 0x22
  reverse_solidus : ShortEscape 0x5C 0x5C
  solidus : ShortEscape 0x2F 0x2F
  backspace : ShortEscape 0x62 0x08
  form_feed : ShortEscape 0x66 0x0C
  line_feed : ShortEscape 0x6E 0x0A
  carriage_return : ShortEscape 0x72 0x0D
  tab : ShortEscape 0x74 0x09

-- char = unescaped / escape ( .. ); unescaped = %x20-21 / %x23-5B / %x5D-10FFFF. "To escape an extended character that is not in
-- the Basic Multilingual Plane, the character is represented as a 12-character sequence, encoding the UTF-16 surrogate pair."
-- Document 01: "A lone surrogate escape makes it unreadable", so that none is a char.
pub data Char : List ℕ → List ℕ → Type 0 where
  unescaped_low : (x : ℕ) → within 0x20 0x21 x ≡ true → Char (x ∷ []) (x ∷ [])
  unescaped_middle : (x : ℕ) → within 0x23 0x5B x ≡ true → Char (x ∷ []) (x ∷ [])
  unescaped_high : (x : ℕ) → within 0x5D 0xFF x ≡ true → Char (x ∷ []) (x ∷ [])
  short : {x b : ℕ} → ShortEscape x b → Char (0x5C ∷ x ∷ []) (b ∷ [])
  plane : {t : List ℕ} {u : ℕ} → Unicode t u → within 0xD800 0xDFFF u ≡ false → Char t (utf8 u)
  pair : {t s : List ℕ} {u v : ℕ} → Unicode t u → Unicode s v →
      within 0xD800 0xDBFF u ≡ true → within 0xDC00 0xDFFF v ≡ true →
      Char (t ++ s) (utf8 (0x10000 + (u - 0xD800) * 0x400 + (v - 0xDC00)))

pub data Chars : List ℕ → List ℕ → Type 0 where
  no_char : Chars [] []
  char : {a b v w : List ℕ} → Char a v → Chars b w → Chars (a ++ b) (v ++ w)

-- string = quotation-mark *char quotation-mark
pub data String : List ℕ → List ℕ → Type 0 where
  quoted : {a v : List ℕ} → Chars a v → String (0x22 ∷ (a ++ (0x22 ∷ []))) v

-- What a value is, as far as document 01 asks: a string with its bytes, or none
pub data Meaning : Type 0 where
  text : List ℕ → Meaning
  other : Meaning

-- the values that nest nothing
pub data Flat : List ℕ → Meaning → Type 0 where
  name : {a : List ℕ} → LiteralName a → Flat a other
  number : {a : List ℕ} → Number a → Flat a other
  string : {a v : List ℕ} → String a v → Flat a (text v)

-- P *( value-separator P ), with the meanings in order
pub data Separated {X : Type 0} (P : List ℕ → X → Type 0) : List ℕ → List X → Type 0 where
  one : {a : List ℕ} {x : X} → P a x → Separated P a (x ∷ [])
  and : {a c b : List ℕ} {x : X} {xs : List X} → P a x → value_separator c → Separated P b xs →
      Separated P (a ++ (c ++ b)) (x ∷ xs)

-- opening [ P *( value-separator P ) ] closing
pub data Enclosed {X : Type 0} (opening closing : Kind) (P : List ℕ → X → Type 0) : List ℕ → List X → Type 0 where
  empty : {a b : List ℕ} → opening a → closing b → Enclosed opening closing P (a ++ b) []
  filled : {a b c : List ℕ} {xs : List X} → opening a → Separated P b xs → closing c →
      Enclosed opening closing P (a ++ (b ++ c)) xs

-- a member: its name, after escapes, and what its value is
pub record Named : Type 0 where
  pub key : List ℕ
  pub value : Meaning

-- Section 4. member = string name-separator value
pub data Member (Inner : List ℕ → Meaning → Type 0) : List ℕ → Named → Type 0 where
  member : {a c b n : List ℕ} {m : Meaning} → String a n → name_separator c → Inner b m →
      Member Inner (a ++ (c ++ b)) (record { key = n; value = m })

-- object = begin-object [ member *( value-separator member ) ] end-object
abbrev pub Object : (List ℕ → Meaning → Type 0) → List ℕ → List Named → Type 0
Object Inner = Enclosed begin_object end_object (Member Inner)

-- Section 5. array = begin-array [ value *( value-separator value ) ] end-array
abbrev pub Array : (List ℕ → Meaning → Type 0) → List ℕ → List Meaning → Type 0
Array Inner = Enclosed begin_array end_array Inner

-- Section 3. value = false / null / true / object / array / number / string, over the values that may be nested
pub data Nested (Inner : List ℕ → Meaning → Type 0) : List ℕ → Meaning → Type 0 where
  flat : {a : List ℕ} {m : Meaning} → Flat a m → Nested Inner a m
  object : {a : List ℕ} {ms : List Named} → Object Inner a ms → Nested Inner a other
  array : {a : List ℕ} {ms : List Meaning} → Array Inner a ms → Nested Inner a other

-- values with so many nested levels at most
abbrev pub Value : ℕ → List ℕ → Meaning → Type 0
Value zero = Flat
Value (suc depth) = Nested (Value depth)

-- JSON-text = ws value ws, where the value is an object. Document 01: "127 nested levels are read, 128 are not"; the object is the first.
pub data JsonText : List ℕ → List Named → Type 0 where
  json : {a b c : List ℕ} {ms : List Named} → Ws a → Object (Value 126) b ms → Ws c → JsonText (a ++ (b ++ c)) ms
