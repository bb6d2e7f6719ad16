-- What strings of well-formed UTF-8 text stand for is well-formed UTF-8. Assumes nothing.
use mathlib.Core.Path.{◌≡◌, refl, sym, ◌∙◌, ap}
use mathlib.Core.Bool.{true, false}
use mathlib.Core.List.{List, [], ◌∷◌, ◌++◌, append_assoc}
use mathlib.Core.Logic.{◌⊎◌, inl, inr}
use Prim.Native.Nat.{ℕ, ◌+◌, ◌*◌, ◌-◌, ◌≤◌, ◌<◌}
use native.Mathlib.Omega.{arith}
use Rattle.ground.specs.Abnf.{Kind, Octet, octet, ◌⊹◌, ◌⨾◌, ◌∣◌, left, right, none, more}
use Rattle.ground.specs.Choice.{within}
use Rattle.ground.proofs.Cases.{within_both, within_high, le_or_lt}
use Rattle.text_utf8.specs.Grammar.{Utf8Tail, Utf8_2, Utf8_3, Utf8_4, Utf8Char, Utf8Octets}
use Rattle.text_utf8.proofs.Boundaries.{octets_as, char_octets, append_octets, ascii_octets, at_low, cut_octets, tail_octets}
use Rattle.json_grammar.specs.Encode.{utf8}
use Rattle.json_grammar.specs.Grammar
use Rattle.json_grammar.specs.Reader.{got, chars_from, string_of}
use Rattle.json_grammar.proofs.StringsTook.{string_took}
use Rattle.json_grammar.proofs.StringsAll.{four}
use Rattle.json_grammar.proofs.EncodeLaws.{utf8_char}

-- Octets from 80 on.
data High : List ℕ → Type 0 where
  no_high : High []
  high : {x : ℕ} {s : List ℕ} → 0x80 ≤ x → High s → High (x ∷ s)

high_append : {a b : List ℕ} → High a → High b → High (a ++ b)
high_append no_high k = k
high_append (high l h) k = high l (high_append h k)

-- one such octet or more
data Highs : List ℕ → Type 0 where
  highs : {x : ℕ} {s : List ℕ} → 0x80 ≤ x → High s → Highs (x ∷ s)

highs_append : {a b : List ℕ} → Highs a → Highs b → Highs (a ++ b)
highs_append (highs l h) (highs k g) = highs l (high_append h (high k g))

-- a kind of text that has only such octets
record Beyond (A : Kind) : Type 0 where
  are : (a : List ℕ) → A a → Highs a

from : {low top : ℕ} → 0x80 ≤ low → Beyond (Octet low top)
from {low} {top} h = record { are = λ a o. go o }
  where
    go : {a : List ℕ} → Octet low top a → Highs a
    go (octet x e) = highs {x = x} (let w = within_both low top x e in omega arith) no_high

both_beyond : {A B : Kind} → Beyond A → Beyond B → Beyond (A ⊹ B)
both_beyond {A} {B} p q = record { are = λ a o. go o }
  where
    go : {a : List ℕ} → (A ⊹ B) a → Highs a
    go (◌⨾◌ {a = a} {b = b} x y) = highs_append (p.are a x) (q.are b y)

either_beyond : {A B : Kind} → Beyond A → Beyond B → Beyond (A ∣ B)
either_beyond {A} {B} p q = record { are = λ a o. go o }
  where
    go : {a : List ℕ} → (A ∣ B) a → Highs a
    go (left {a = a} x) = p.are a x
    go (right {a = a} y) = q.are a y

tail_beyond : Beyond Utf8Tail
tail_beyond = from (omega arith)

two_beyond : Beyond Utf8_2
two_beyond = both_beyond (from (omega arith)) tail_beyond

three_beyond : Beyond Utf8_3
three_beyond =
    either_beyond (both_beyond (from (omega arith)) (both_beyond (from (omega arith)) tail_beyond))
    (either_beyond (both_beyond (from (omega arith)) (both_beyond tail_beyond tail_beyond))
    (either_beyond (both_beyond (from (omega arith)) (both_beyond (from (omega arith)) tail_beyond))
    (both_beyond (from (omega arith)) (both_beyond tail_beyond tail_beyond))))

four_beyond : Beyond Utf8_4
four_beyond =
    either_beyond (both_beyond (from (omega arith)) (both_beyond (from (omega arith)) (both_beyond tail_beyond tail_beyond)))
    (either_beyond (both_beyond (from (omega arith)) (both_beyond tail_beyond (both_beyond tail_beyond tail_beyond)))
    (both_beyond (from (omega arith)) (both_beyond (from (omega arith)) (both_beyond tail_beyond tail_beyond))))

-- A UTF8-char is one ASCII octet, or has none.
record Begins (a : List ℕ) : Type 0 where
  first : ℕ
  later : List ℕ
  are : a ≡ first ∷ later
  rise : High later
  alone : first < 0x80 → later ≡ []

begins_highs : {a : List ℕ} → Highs a → Begins a
begins_highs (highs {x} {s} l h) = record { first = x; later = s; are = refl; rise = h; alone = λ b. absurd (omega arith) }

begins : {a : List ℕ} → Utf8Char a → Begins a
begins (left (octet x e)) = record { first = x; later = []; are = refl; rise = no_high; alone = λ h. refl }
begins (right {a = a} c) = begins_highs ((either_beyond two_beyond (either_beyond three_beyond four_beyond)).are a c)

no_octet : {B : Type 0} {x : ℕ} {s : List ℕ} → [] ≡ x ∷ s → B
no_octet e = absurd (let z : ◌≡◌ {A = ℕ} 0 1 = cc in omega arith)

-- the char at the head of a text, with what follows it
at_head : {a t : List ℕ} (b : List ℕ) (g : Begins a) → a ++ b ≡ t → g.first ∷ (g.later ++ b) ≡ t
at_head b g e = sym (ap (λ l. l ++ b) g.are) ∙ e

-- The first UTF8-char of a text that begins with `x`, and the rest.
record Head (x : ℕ) (s : List ℕ) : Type 0 where
  later : List ℕ
  rest : List ℕ
  cut : s ≡ later ++ rest
  is : Utf8Char (x ∷ later)
  rise : High later
  alone : x < 0x80 → later ≡ []
  well : Utf8Octets rest

char_as : {a b : List ℕ} → a ≡ b → Utf8Char a → Utf8Char b
char_as e c = rw e at c

head_of : {t : List ℕ} → Utf8Octets t → (x : ℕ) (s : List ℕ) → t ≡ x ∷ s → Head x s
head_of none x s e = no_octet e
head_of (more {a = a} {b = b} c o) x s e =
    let g = begins c in
    let f = at_head b g e in
    let q : g.first ≡ x = cc in
    let t : g.later ++ b ≡ s = cc in
    record {
      later = g.later;
      rest = b;
      cut = sym t;
      is = char_as (g.are ∙ ap (λ y. y ∷ g.later) q) c;
      rise = g.rise;
      alone = λ h. g.alone (rw q h);
      well = o;
    }

octets_head : (x : ℕ) (s : List ℕ) → Utf8Octets (x ∷ s) → Head x s
octets_head x s o = head_of o x s refl

-- what stands before and what stands after an ASCII octet of a well-formed text is well formed
middle_octets : (p q : List ℕ) (x : ℕ) → x < 0x80 → Utf8Octets (p ++ (x ∷ q)) → Utf8Octets p × Utf8Octets q
middle_octets p q x h o = let (a, b) = cut_octets p (x ∷ q) (at_low h) o in (a, tail_octets x q h b)

-- ASCII octets.
data Low : List ℕ → Type 0 where
  no_low : Low []
  low : {x : ℕ} {s : List ℕ} → x < 0x80 → Low s → Low (x ∷ s)

past_low : {a : List ℕ} → Low a → (b : List ℕ) → Utf8Octets (a ++ b) → Utf8Octets b
past_low no_low b o = o
past_low (low {x} {s} h l) b o = past_low l b (tail_octets x (s ++ b) h o)

-- A char is ASCII and stands for well-formed text, or is an octet from 80 on that stands for itself.
data Seen : List ℕ → List ℕ → Type 0 where
  ascii : {x : ℕ} {a v : List ℕ} → x < 0x80 → Low a → Utf8Octets v → Seen (x ∷ a) v
  itself : (x : ℕ) → 0x80 ≤ x → Seen (x ∷ []) (x ∷ [])

seen_ascii : (x : ℕ) → x < 0x80 → Seen (x ∷ []) (x ∷ [])
seen_ascii x h = ascii h no_low (ascii_octets x h)

seen_high : (x : ℕ) → (0x80 ≤ x) ⊎ (x < 0x80) → Seen (x ∷ []) (x ∷ [])
seen_high x (inl h) = itself x h
seen_high x (inr h) = seen_ascii x h

escaped : (x b : ℕ) → x < 0x80 → b < 0x80 → Seen (0x5C ∷ x ∷ []) (b ∷ [])
escaped x b h l = ascii {x = 0x5C} (omega arith) (low h no_low) (ascii_octets b l)

seen_short : {x b : ℕ} → Grammar.ShortEscape x b → Seen (0x5C ∷ x ∷ []) (b ∷ [])
seen_short Grammar.quotation_mark = escaped 0x22 0x22 (omega arith) (omega arith)
seen_short Grammar.reverse_solidus = escaped 0x5C 0x5C (omega arith) (omega arith)
seen_short Grammar.solidus = escaped 0x2F 0x2F (omega arith) (omega arith)
seen_short Grammar.backspace = escaped 0x62 0x08 (omega arith) (omega arith)
seen_short Grammar.form_feed = escaped 0x66 0x0C (omega arith) (omega arith)
seen_short Grammar.line_feed = escaped 0x6E 0x0A (omega arith) (omega arith)
seen_short Grammar.carriage_return = escaped 0x72 0x0D (omega arith) (omega arith)
seen_short Grammar.tab = escaped 0x74 0x09 (omega arith) (omega arith)

-- `\u` and four digits are ASCII
hex_ascii : {x a : ℕ} → Grammar.Hexdig x a → x < 0x80
hex_ascii (Grammar.digit x e) = let w = within_both 0x30 0x39 x e in omega arith
hex_ascii (Grammar.upper x e) = let w = within_both 0x41 0x46 x e in omega arith
hex_ascii (Grammar.lower x e) = let w = within_both 0x61 0x66 x e in omega arith

record Written (t : List ℕ) : Type 0 where
  later : List ℕ
  are : t ≡ 0x5C ∷ later
  lows : Low later

written : {t : List ℕ} {u : ℕ} → Grammar.Unicode t u → Written t
written (Grammar.u4 {x} {y} {z} {w} p q r s) = record {
  later = 0x75 ∷ x ∷ y ∷ z ∷ w ∷ [];
  are = refl;
  lows = low {x = 0x75} (omega arith) (low (hex_ascii p) (low (hex_ascii q) (low (hex_ascii r) (low (hex_ascii s) no_low))));
}

low_append : {a b : List ℕ} → Low a → Low b → Low (a ++ b)
low_append no_low k = k
low_append (low h l) k = low h (low_append l k)

seen_as : {a b v : List ℕ} → b ≡ a → Seen a v → Seen b v
seen_as e s = rw e s

-- a code point that is written with escapes
seen_code : {t : List ℕ} (u : ℕ) → Written t → u < 0x110000 → within 0xD800 0xDFFF u ≡ false → Seen t (utf8 u)
seen_code u w h e = seen_as w.are (ascii {x = 0x5C} (omega arith) w.lows (char_octets (utf8_char u h e)))

written_pair : {t s : List ℕ} → Written t → Written s → Written (t ++ s)
written_pair {t} {s} w k = record {
  later = w.later ++ (0x5C ∷ k.later);
  are = ap (λ l. l ++ s) w.are ∙ ap (λ l. 0x5C ∷ (w.later ++ l)) k.are;
  lows = low_append w.lows (low {x = 0x5C} (omega arith) k.lows);
}

seen_pair : {t : List ℕ} (u v : ℕ) → Written t → within 0xD800 0xDBFF u ≡ true → within 0xDC00 0xDFFF v ≡ true →
    Seen t (utf8 (0x10000 + (u - 0xD800) * 0x400 + (v - 0xDC00)))
seen_pair u v w p q =
    let a = within_both 0xD800 0xDBFF u p in
    let b = within_both 0xDC00 0xDFFF v q in
    let c : ℕ = 0x10000 + (u - 0xD800) * 0x400 + (v - 0xDC00) in
    seen_code c w (omega arith) (within_high 0xD800 0xDFFF c (omega arith))

seen : {a v : List ℕ} → Grammar.Char a v → Seen a v
seen (Grammar.unescaped_low x e) = seen_ascii x (let w = within_both 0x20 0x21 x e in omega arith)
seen (Grammar.unescaped_middle x e) = seen_ascii x (let w = within_both 0x23 0x5B x e in omega arith)
seen (Grammar.unescaped_high x e) = seen_high x (le_or_lt 0x80 x)
seen (Grammar.short s) = seen_short s
seen (Grammar.plane {t} {u} c e) = seen_code u (written c) (let s = (four c).small in omega arith) e
seen (Grammar.pair {t} {s} {u} {v} c d p q) = seen_pair u v (written_pair (written c) (written d)) p q

-- Chars, where the first `c` of their octets are the later ones of a UTF8-char: these stand for themselves, and what comes after them for
-- well-formed text.
record Goes (c v : List ℕ) : Type 0 where
  text : List ℕ
  value : v ≡ c ++ text
  well : Utf8Octets text

-- a char, and then chars of which this is known
then_goes : {a v : List ℕ} → Seen a v → (b w : List ℕ) → ((c r : List ℕ) → High c → b ≡ c ++ r → Utf8Octets r → Goes c w) →
    {c : List ℕ} → High c → (r : List ℕ) → a ++ b ≡ c ++ r → Utf8Octets r → Goes c (v ++ w)
then_goes (ascii {x} {a} {v} l s ov) b w again no_high r e o =
    let g = again [] b no_high refl (past_low (low l s) b (octets_as (sym e) o)) in
    record { text = v ++ w; value = refl; well = append_octets ov (octets_as (sym g.value) g.well) }
then_goes (ascii {x} l s ov) b w again (high {x = y} k h) r e o = absurd (let z : x ≡ y = cc in omega arith)
then_goes (itself x l) b w again no_high r e o =
    let d = octets_head x b (octets_as (sym e) o) in
    let g = again d.later d.rest d.rise d.cut d.well in
    record { text = x ∷ w; value = refl; well = octets_as (ap (λ t. x ∷ t) (sym g.value)) (more d.is g.well) }
then_goes (itself x l) b w again (high {x = y} {s = c} k h) r e o =
    let q : x ≡ y = cc in
    let f : b ≡ c ++ r = cc in
    let g = again c r h f o in
    record { text = g.text; value = ap (λ z. z ∷ w) q ∙ ap (λ t. y ∷ t) g.value; well = g.well }

goes : {a v : List ℕ} → Grammar.Chars a v → (c r : List ℕ) → High c → a ≡ c ++ r → Utf8Octets r → Goes c v
goes Grammar.no_char [] r h e o = record { text = []; value = refl; well = none }
goes Grammar.no_char (x ∷ c) r h e o = no_octet e
goes (Grammar.char {b = b} {w = w} c cs) d r h e o = then_goes (seen c) b w (λ k q g f p. goes cs k q g f p) h r e o

-- the bytes that chars of a well-formed text stand for are well formed
pub chars_octets : (a v : List ℕ) → Grammar.Chars a v → Utf8Octets a → Utf8Octets v
chars_octets a v c o = let g = goes c [] a no_high refl o in octets_as (sym g.value) g.well

-- a string anywhere in well-formed text
pub decoded_octets : (p a q v : List ℕ) → Grammar.String a v → Utf8Octets (p ++ (a ++ q)) → Utf8Octets v
decoded_octets p a q v (Grammar.quoted {a = c} cs) o =
    let s = (middle_octets p (c ++ (0x22 ∷ []) ++ q) 0x22 (omega arith) o).1 in
    chars_octets c v cs (middle_octets c q 0x22 (omega arith) (octets_as (append_assoc c (0x22 ∷ []) q) s)).0

-- what the reader takes after an opening quotation mark
pub reader_octets : (p s : List ℕ) {v r : List ℕ} → chars_from 0 s ≡ got v r → Utf8Octets (p ++ (0x22 ∷ s)) → Utf8Octets v
unfolding string_of
reader_octets p s {v} {r} e o =
    let t = string_took (0x22 ∷ s) e in
    decoded_octets p t.part r v t.is (octets_as (ap (λ l. p ++ l) t.cut) o)
