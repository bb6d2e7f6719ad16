-- A reader of RFC 8259's grammar on lists: what was read, and what is left. proofs/ show that it reads exactly what the grammar has.
use Rattle.std.specs.Prelude.{Bool, List, [], ◌∷◌, ◌++◌, map, ℕ, zero, suc, ◌+◌, ◌*◌, ◌-◌, eqb, length, drop}
use Rattle.ground.specs.Ascii.{ascii}
use Rattle.ground.specs.Choice.{pick, either, within}
use Rattle.text_places.specs.Places.{same}
use Rattle.json_grammar.specs.Encode.{utf8}
use Rattle.json_grammar.specs.Grammar.{Meaning, text, other, Named}

pub data Out (A : Type 0) : Type 0 where
  got : A → List ℕ → Out A
  bad : Out A

unfoldable pub and_then : {A B : Type 0} → Out A → (A → List ℕ → Out B) → Out B
and_then (got x r) k = k x r
and_then bad k = bad

-- Section 2: without the ws at the head
abbrev pub is_ws : ℕ → Bool
is_ws x = either (within 0x20 0x20 x) (either (within 0x09 0x09 x) (either (within 0x0A 0x0A x) (within 0x0D 0x0D x)))

-- a text without the octets at its head for which `p` holds
unfoldable pub past_all : (ℕ → Bool) → List ℕ → List ℕ
past_all p [] = []
past_all p (x ∷ s) =
    let more = past_all p s in
    pick (p x) more (x ∷ s)

abbrev pub skip : List ℕ → List ℕ
skip s = past_all is_ws s

-- one octet
abbrev pub one_of : (ℕ → Bool) → List ℕ → Out ℕ
one_of p [] = bad
one_of p (x ∷ s) = pick (p x) (got x s) bad

-- a structural character, with ws before and after
unfoldable pub structural : ℕ → List ℕ → Out ℕ
structural x s = and_then (one_of (within x x) (skip s)) (λ y r. got y (skip r))

-- Section 6
abbrev pub is_digit : ℕ → Bool
is_digit x = within 0x30 0x39 x

abbrev pub past_digits : List ℕ → List ℕ
past_digits s = past_all is_digit s

-- 1*DIGIT
unfoldable pub digits : List ℕ → Out ℕ
digits s = and_then (one_of is_digit s) (λ x r. got x (past_digits r))

-- [ A ], where A begins with one of some octets
unfoldable pub optional : (ℕ → Bool) → (List ℕ → Out ℕ) → List ℕ → Out ℕ
optional p k [] = got 0 []
optional p k (x ∷ s) = pick (p x) (k s) (got 0 (x ∷ s))

unfoldable pub int : List ℕ → Out ℕ
int [] = bad
int (x ∷ s) = pick (within 0x30 0x30 x) (got x s) (pick (within 0x31 0x39 x) (got x (past_digits s)) bad)

-- past an optional sign
abbrev pub is_minus : ℕ → Bool
is_minus x = within 0x2D 0x2D x

abbrev pub is_sign : ℕ → Bool
is_sign x = either (within 0x2D 0x2D x) (within 0x2B 0x2B x)

unfoldable pub past : (ℕ → Bool) → List ℕ → List ℕ
past p [] = []
past p (x ∷ s) = pick (p x) s (x ∷ s)

abbrev pub is_point : ℕ → Bool
is_point x = within 0x2E 0x2E x

abbrev pub is_e : ℕ → Bool
is_e x = either (within 0x65 0x65 x) (within 0x45 0x45 x)

abbrev pub frac : List ℕ → Out ℕ
frac s = optional is_point digits s

abbrev pub exp : List ℕ → Out ℕ
exp s = optional is_e (λ r. digits (past is_sign r)) s

unfoldable pub json_number : List ℕ → Out ℕ
json_number s = and_then (int (past is_minus s)) (λ x r. and_then (frac r) (λ y q. exp q))

-- Section 7: what stands at the head of what is left of a string
pub data Piece : Type 0 where
  -- a char: the bytes that it stands for, and how many it takes beyond its first
  stands : List ℕ → ℕ → Piece
  -- the quotation mark at the end
  closes : Piece
  wrong : Piece

-- the value of a hexadecimal digit; 16 where it is none
abbrev pub hexdig : ℕ → ℕ
hexdig x = pick (within 0x30 0x39 x) (x - 0x30) (pick (within 0x41 0x46 x) (x - 0x37) (pick (within 0x61 0x66 x) (x - 0x57) 16))

-- the value of four of them; 65536 where they are not
abbrev pub hex_value : ℕ → ℕ → ℕ → ℕ → ℕ
hex_value a b c d = pick (either (eqb a 16) (either (eqb b 16) (either (eqb c 16) (eqb d 16)))) 65536 (((a * 16 + b) * 16 + c) * 16 + d)

unfoldable pub hex4 : List ℕ → ℕ
hex4 (x ∷ y ∷ z ∷ w ∷ s) = hex_value (hexdig x) (hexdig y) (hexdig z) (hexdig w)
hex4 (x ∷ y ∷ z ∷ []) = 65536
hex4 (x ∷ y ∷ []) = 65536
hex4 (x ∷ []) = 65536
hex4 [] = 65536

-- after `\u` with a high surrogate `u` and its four digits: the low one, which makes a pair
unfoldable pub second : ℕ → List ℕ → Piece
second u [] = wrong
second u (x ∷ []) = wrong
second u (x ∷ (y ∷ s)) =
    pick (eqb x 0x5C)
    (pick (eqb y 0x75)
    (pick (within 0xDC00 0xDFFF (hex4 s)) (stands (utf8 (0x10000 + (u - 0xD800) * 0x400 + (hex4 s - 0xDC00))) 11) wrong) wrong) wrong

-- after `\u`
unfoldable pub unicode : List ℕ → Piece
unicode s =
    pick (eqb (hex4 s) 65536) wrong
    (pick (within 0xD800 0xDBFF (hex4 s)) (second (hex4 s) (drop 4 s))
    (pick (within 0xDC00 0xDFFF (hex4 s)) wrong (stands (utf8 (hex4 s)) 5)))

-- what the second character of a short escape stands for
unfoldable pub short_escape : ℕ → Piece
short_escape x =
    pick (eqb x 0x22) (stands (0x22 ∷ []) 1) (pick (eqb x 0x5C) (stands (0x5C ∷ []) 1) (pick (eqb x 0x2F) (stands (0x2F ∷ []) 1)
    (pick (eqb x 0x62) (stands (0x08 ∷ []) 1) (pick (eqb x 0x66) (stands (0x0C ∷ []) 1) (pick (eqb x 0x6E) (stands (0x0A ∷ []) 1)
    (pick (eqb x 0x72) (stands (0x0D ∷ []) 1) (pick (eqb x 0x74) (stands (0x09 ∷ []) 1) wrong)))))))

-- after the escape
unfoldable pub escape : List ℕ → Piece
escape [] = wrong
escape (x ∷ s) = pick (eqb x 0x75) (unicode s) (short_escape x)

unfoldable pub piece_of : List ℕ → Piece
piece_of [] = wrong
piece_of (x ∷ s) = pick (eqb x 0x22) closes (pick (eqb x 0x5C) (escape s) (pick (within 0x20 0xFF x) (stands (x ∷ []) 0) wrong))

abbrev pub takes : Piece → ℕ
takes (stands v n) = n
takes closes = 0
takes wrong = 0

abbrev pub ends : Piece → List ℕ → Out (List ℕ) → Out (List ℕ)
ends (stands v n) s more = and_then more (λ w r. got (v ++ w) r)
ends closes s more = got [] s
ends wrong s more = bad

-- *char and the closing quotation mark; `n` octets at the head belong to the char before
unfoldable pub chars_from : ℕ → List ℕ → Out (List ℕ)
chars_from n [] = bad
chars_from zero (x ∷ s) =
    let more = chars_from (takes (piece_of (x ∷ s))) s in
    ends (piece_of (x ∷ s)) s more
chars_from (suc n) (x ∷ s) = chars_from n s

-- a string
unfoldable pub string_of : List ℕ → Out (List ℕ)
string_of [] = bad
string_of (x ∷ s) = pick (eqb x 0x22) (chars_from 0 s) bad

-- Section 3: the literal names
unfoldable pub past_word : List ℕ → List ℕ → Out Meaning
past_word [] s = got other s
past_word (c ∷ w) [] = bad
past_word (c ∷ w) (x ∷ s) = pick (eqb x c) (past_word w s) bad

abbrev pub as_text : Out (List ℕ) → Out Meaning
as_text o = and_then o (λ v r. got (text v) r)

abbrev pub as_other : {A : Type 0} → Out A → Out Meaning
as_other o = and_then o (λ v r. got other r)

-- the values that nest nothing
unfoldable pub flat_of : List ℕ → Out Meaning
flat_of [] = bad
flat_of (x ∷ s) =
    pick (eqb x 0x22) (as_text (string_of (x ∷ s)))
    (pick (eqb x 0x66) (past_word (ascii "false") (x ∷ s))
    (pick (eqb x 0x6E) (past_word (ascii "null") (x ∷ s))
    (pick (eqb x 0x74) (past_word (ascii "true") (x ∷ s)) (as_other (json_number (x ∷ s))))))

-- after an item `x`: a comma and more items, or the closing character
unfoldable pub after_item : {X : Type 0} → ℕ → X → (List ℕ → Out (List X)) → List ℕ → Out (List X)
after_item closing x more [] = bad
after_item closing x more (y ∷ t) =
    let goes = and_then (more (skip t)) (λ xs q. got (x ∷ xs) q) in
    pick (eqb y 0x2C) goes (pick (eqb y closing) (got (x ∷ []) (skip t)) bad)

-- P *( value-separator P ) closing, of at most `n` items
unfoldable pub items_of : {X : Type 0} → (List ℕ → Out X) → ℕ → ℕ → List ℕ → Out (List X)
items_of p closing zero s = bad
items_of p closing (suc n) s = and_then (p s) (λ x r. after_item closing x (items_of p closing n) (skip r))

-- after the opening character and ws: the closing one, or items
unfoldable pub inside_of : {X : Type 0} → (List ℕ → Out X) → ℕ → List ℕ → Out (List X)
inside_of p closing [] = bad
inside_of p closing (x ∷ s) =
    let items = items_of p closing (length (x ∷ s)) (x ∷ s) in
    pick (eqb x closing) (got [] (skip s)) items

-- opening [ P *( value-separator P ) ] closing, at the opening character
unfoldable pub enclosed_of : {X : Type 0} → (List ℕ → Out X) → ℕ → ℕ → List ℕ → Out (List X)
enclosed_of p opening closing [] = bad
enclosed_of p opening closing (x ∷ s) =
    let goes = inside_of p closing (skip s) in
    pick (eqb x opening) goes bad

-- a member, and the text from its value on
pub record Item : Type 0 where
  pub named : Named
  pub onward : List ℕ

abbrev pub item : List ℕ → Meaning → List ℕ → Item
item k m l = record { named = record { key = k; value = m }; onward = l }

-- Section 4
unfoldable pub member_of : (List ℕ → Out Meaning) → List ℕ → Out Item
member_of inner s = and_then (string_of s) (λ k r. and_then (structural 0x3A r) (λ y q. and_then (inner q) (λ m t. got (item k m q) t)))

-- Sections 3 to 5: a value, over the reader of those that may be nested
unfoldable pub nested_of : (List ℕ → Out Meaning) → List ℕ → Out Meaning
nested_of inner [] = bad
nested_of inner (x ∷ s) =
    let object = as_other (enclosed_of (member_of inner) 0x7B 0x7D (x ∷ s)) in
    let array = as_other (enclosed_of inner 0x5B 0x5D (x ∷ s)) in
    let flat = flat_of (x ∷ s) in
    pick (eqb x 0x7B) object (pick (eqb x 0x5B) array flat)

unfoldable pub value_of : ℕ → List ℕ → Out Meaning
value_of zero s = flat_of s
value_of (suc depth) s = nested_of (value_of depth) s

-- the members of a text that is an object, with nothing left
abbrev pub all_read : Out (List Item) → Out (List Item)
all_read (got items []) = got items []
all_read (got items (x ∷ r)) = bad
all_read bad = bad

unfoldable pub members_of : List ℕ → Out (List Item)
members_of s = all_read (enclosed_of (member_of (value_of 126)) 0x7B 0x7D (skip s))

-- what the grammar says of items: their names and what their values are
abbrev pub names : List Item → List Named
names items = map (λ i. i.named) items

-- the last item with a name, if there is one
pub data Found : Type 0 where
  missing : Found
  found : Item → Found

abbrev pub or_earlier : Found → Found → Found
or_earlier (found i) f = found i
or_earlier missing f = f

unfoldable pub last_of : List ℕ → List Item → Found
last_of k [] = missing
last_of k (i ∷ items) = or_earlier (last_of k items) (pick (same i.named.key k) (found i) missing)
