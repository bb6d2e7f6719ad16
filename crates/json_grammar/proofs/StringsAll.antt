-- Complete: every char and every string of the grammar is read, with what it stands for. Assumes nothing.
use mathlib.Core.Path.{◌≡◌, refl, ◌∙◌, ap}
use mathlib.Core.Bool.{Bool, true, false}
use mathlib.Core.List.{List, [], ◌∷◌, ◌++◌, append_assoc}
use Prim.Native.Nat.{ℕ, suc, ◌+◌, ◌*◌, ◌-◌, ◌≤◌, ◌<◌}
use native.Mathlib.Omega.{arith}
use lib.Dec.{eqb}
use lib.ListN.{length, drop, length-append}
use lib.Seq.{drop_at}
use borrow.Author.Tests.{ne_eqb}
use Rattle.ground.specs.Choice.{within}
use Rattle.ground.proofs.Cases.{within_both, within_yes, within_high, clash}
use Rattle.json_grammar.specs.Encode.{utf8}
use Rattle.json_grammar.specs.Grammar
use Rattle.json_grammar.specs.Reader.{got, bad, and_then, stands, closes, wrong, hexdig, hex_value, hex4, second, unicode, short_escape, escape, piece_of, takes, ends, chars_from, string_of}
use Rattle.json_grammar.proofs.StringsTook.{chars_skip}

-- Hexadecimal digits.
hexdig_is : {x a : ℕ} → Grammar.Hexdig x a → hexdig x ≡ a
hexdig_is (Grammar.digit x e) = rw e
hexdig_is (Grammar.upper x e) = rw (within_high 0x30 0x39 x (let w = within_both 0x41 0x46 x e in omega arith), e)
hexdig_is (Grammar.lower x e) =
    rw (within_high 0x30 0x39 x (let w = within_both 0x61 0x66 x e in omega arith), within_high 0x41 0x46 x (let w = within_both 0x61 0x66 x e in omega arith), e)

hexdig_small : {x a : ℕ} → Grammar.Hexdig x a → a < 16
hexdig_small (Grammar.digit x e) = let w = within_both 0x30 0x39 x e in omega arith
hexdig_small (Grammar.upper x e) = let w = within_both 0x41 0x46 x e in omega arith
hexdig_small (Grammar.lower x e) = let w = within_both 0x61 0x66 x e in omega arith

not_sixteen : (a : ℕ) → a < 16 → eqb a 16 ≡ false
not_sixteen a h = ne_eqb a 16 (λ e. omega arith)

value_is : (a b c d : ℕ) → a < 16 → b < 16 → c < 16 → d < 16 → hex_value a b c d ≡ ((a * 16 + b) * 16 + c) * 16 + d
value_is a b c d p q r s = rw (not_sixteen a p, not_sixteen b q, not_sixteen c r, not_sixteen d s)

-- `\u` and four digits: what the reader finds after the `\u`
pub record Four (t : List ℕ) (u : ℕ) : Type 0 where
  x : ℕ
  y : ℕ
  z : ℕ
  w : ℕ
  are : t ≡ 0x5C ∷ 0x75 ∷ x ∷ y ∷ z ∷ w ∷ []
  read : (r : List ℕ) → hex4 (x ∷ y ∷ z ∷ w ∷ r) ≡ u
  pub small : u < 65536

pub four : {t : List ℕ} {u : ℕ} → Grammar.Unicode t u → Four t u
unfolding hex4
four (Grammar.u4 {x} {y} {z} {w} {a} {b} {c} {d} p q r s) = record {
  x = x;
  y = y;
  z = z;
  w = w;
  are = refl;
  read = λ t. rw (hexdig_is p, hexdig_is q, hexdig_is r, hexdig_is s) (value_is a b c d (hexdig_small p) (hexdig_small q) (hexdig_small r) (hexdig_small s));
  small = let f = hexdig_small p in let g = hexdig_small q in let h = hexdig_small r in let i = hexdig_small s in omega arith;
}

-- Chars.
pub plain : (x : ℕ) (s : List ℕ) → (x ≡ 0x22 → ⊥) → (x ≡ 0x5C → ⊥) → 0x20 ≤ x → x ≤ 0xFF → piece_of (x ∷ s) ≡ stands (x ∷ []) 0
unfolding piece_of
plain x s p q l h = rw (ne_eqb x 0x22 p, ne_eqb x 0x5C q, within_yes 0x20 0xFF x l h)

short_reads : {x b : ℕ} → Grammar.ShortEscape x b → (r : List ℕ) → piece_of (0x5C ∷ x ∷ r) ≡ stands (b ∷ []) 1
unfolding piece_of escape short_escape
short_reads Grammar.quotation_mark r = refl
short_reads Grammar.reverse_solidus r = refl
short_reads Grammar.solidus r = refl
short_reads Grammar.backspace r = refl
short_reads Grammar.form_feed r = refl
short_reads Grammar.line_feed r = refl
short_reads Grammar.carriage_return r = refl
short_reads Grammar.tab r = refl

-- outside a range is outside every part of it
narrower : (a b c d x : ℕ) → a ≤ c → d ≤ b → within a b x ≡ false → within c d x ≡ false
narrower a b c d x l h n = go (within c d x) refl
  where
    go : (t : Bool) → within c d x ≡ t → t ≡ false
    go true e = let w = within_both c d x e in clash (within_yes a b x (omega arith) (omega arith)) n
    go false e = refl

plane_reads : {t : List ℕ} {u : ℕ} → Grammar.Unicode t u → within 0xD800 0xDFFF u ≡ false → (r : List ℕ) → piece_of (t ++ r) ≡ stands (utf8 u) 5
unfolding piece_of escape unicode
plane_reads {t} {u} c n r =
    let f = four c in
    let fits : eqb u 65536 ≡ false = ne_eqb u 65536 (λ e. let s = f.small in omega arith) in
    rw f.are (rw (f.read r, fits, narrower 0xD800 0xDFFF 0xD800 0xDBFF u (omega arith) (omega arith) n, narrower 0xD800 0xDFFF 0xDC00 0xDFFF u (omega arith) (omega arith) n))

second_reads : (u : ℕ) {t : List ℕ} {v : ℕ} → Grammar.Unicode t v → within 0xDC00 0xDFFF v ≡ true → (r : List ℕ) →
    second u (t ++ r) ≡ stands (utf8 (0x10000 + (u - 0xD800) * 0x400 + (v - 0xDC00))) 11
unfolding second
second_reads u {t} {v} c p r = let f = four c in rw f.are (rw (f.read r, p))

pair_reads : {t s : List ℕ} {u v : ℕ} → Grammar.Unicode t u → Grammar.Unicode s v → within 0xD800 0xDBFF u ≡ true → within 0xDC00 0xDFFF v ≡ true → (r : List ℕ) →
    piece_of (t ++ (s ++ r)) ≡ stands (utf8 (0x10000 + (u - 0xD800) * 0x400 + (v - 0xDC00))) 11
unfolding piece_of escape unicode
pair_reads {t} {s} {u} {v} c d p q r =
    let f = four c in
    let fits : eqb u 65536 ≡ false = ne_eqb u 65536 (λ e. let w = f.small in omega arith) in
    rw f.are (rw (f.read (s ++ r), fits, p) (second_reads u d q r))

four_length : {t : List ℕ} {u : ℕ} → Grammar.Unicode t u → length t ≡ 6
four_length (Grammar.u4 p q r s) = refl

-- a char takes its first octet and `n` more
record CharRead (a v r : List ℕ) : Type 0 where
  n : ℕ
  size : length a ≡ suc n
  reads : piece_of (a ++ r) ≡ stands v n

char_all : {a v : List ℕ} → Grammar.Char a v → (r : List ℕ) → CharRead a v r
char_all (Grammar.unescaped_low x e) r =
    let w = within_both _ _ x e in
    record { n = 0; size = refl; reads = plain x r (λ q. omega arith) (λ q. omega arith) (omega arith) (omega arith) }
char_all (Grammar.unescaped_middle x e) r =
    let w = within_both _ _ x e in
    record { n = 0; size = refl; reads = plain x r (λ q. omega arith) (λ q. omega arith) (omega arith) (omega arith) }
char_all (Grammar.unescaped_high x e) r =
    let w = within_both _ _ x e in
    record { n = 0; size = refl; reads = plain x r (λ q. omega arith) (λ q. omega arith) (omega arith) (omega arith) }
char_all (Grammar.short s) r = record { n = 1; size = refl; reads = short_reads s r }
char_all (Grammar.plane c n) r = record { n = 5; size = four_length c; reads = plane_reads c n r }
char_all (Grammar.pair {t} {s} c d p q) r = record {
  n = 11;
  size = length-append t s ∙ (let a = four_length c in let b = four_length d in omega arith);
  reads = ap piece_of (append_assoc t s r) ∙ pair_reads c d p q r;
}

-- Strings.
chars_at : (x : ℕ) (l : List ℕ) → chars_from 0 (x ∷ l) ≡ ends (piece_of (x ∷ l)) l (chars_from (takes (piece_of (x ∷ l))) l)
unfolding chars_from
chars_at x l = refl

pub chars_none : chars_from 0 [] ≡ bad
unfolding chars_from
chars_none = refl

nothing_there : piece_of [] ≡ wrong
unfolding piece_of
nothing_there = refl

-- the rest of a string, by what stands at its head
pub chars_stands : (l : List ℕ) {v : List ℕ} {n : ℕ} → piece_of l ≡ stands v n → chars_from 0 l ≡ and_then (chars_from 0 (drop (suc n) l)) (λ w q. got (v ++ w) q)
chars_stands [] p = absurd (let o = nothing_there in let z : ◌≡◌ {A = ℕ} 0 1 = cc in omega arith)
chars_stands (x ∷ l) {n = n} p = chars_at x l ∙ rw (p, chars_skip n l)

pub chars_close : (l : List ℕ) → piece_of l ≡ closes → chars_from 0 l ≡ got [] (drop 1 l)
chars_close [] p = absurd (let o = nothing_there in let z : ◌≡◌ {A = ℕ} 0 1 = cc in omega arith)
chars_close (x ∷ l) p = chars_at x l ∙ rw p

pub chars_wrong : (l : List ℕ) → piece_of l ≡ wrong → chars_from 0 l ≡ bad
chars_wrong [] p = chars_none
chars_wrong (x ∷ l) p = chars_at x l ∙ rw p

chars_cons : (l : List ℕ) {v w q : List ℕ} {n : ℕ} → piece_of l ≡ stands v n → chars_from 0 (drop (suc n) l) ≡ got w q → chars_from 0 l ≡ got (v ++ w) q
unfolding and_then
chars_cons l p e = chars_stands l p ∙ rw e

pub quote_closes : (r : List ℕ) → chars_from 0 (0x22 ∷ r) ≡ got [] r
unfolding chars_from piece_of
quote_closes r = refl

chars_all : {a v : List ℕ} → Grammar.Chars a v → (r : List ℕ) → chars_from 0 (a ++ (0x22 ∷ r)) ≡ got v r
chars_all Grammar.no_char r = quote_closes r
chars_all (Grammar.char {a} {b} c cs) r =
    let rest : List ℕ = b ++ (0x22 ∷ r) in
    let h = char_all c rest in
    let after : drop (suc h.n) (a ++ rest) ≡ rest = drop_at a rest (suc h.n) h.size in
    ap (chars_from 0) (append_assoc a b (0x22 ∷ r)) ∙ chars_cons (a ++ rest) h.reads (ap (chars_from 0) after ∙ chars_all cs r)

pub string_all : {a v : List ℕ} → Grammar.String a v → (r : List ℕ) → string_of (a ++ r) ≡ got v r
unfolding string_of
string_all (Grammar.quoted {a} c) r = ap (chars_from 0) (append_assoc a (0x22 ∷ []) r) ∙ chars_all c r
