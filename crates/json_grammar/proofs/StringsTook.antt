-- Sound: the chars and strings that the reader takes are those of the grammar, with what they stand for. Assumes nothing.
use mathlib.Core.Path.{◌≡◌, refl, sym, ◌∙◌, ap}
use mathlib.Core.Bool.{Bool, true, false}
use mathlib.Core.List.{List, [], ◌∷◌, ◌++◌, append_assoc}
use Prim.Native.Nat.{ℕ, zero, suc, ◌+◌, ◌*◌, ◌-◌, ◌≤◌, ◌<◌}
use native.Mathlib.Nat.{le_of_suc-le-suc}
use native.Mathlib.Omega.{arith}
use lib.Dec.{eqb, lit<}
use lib.ListN.{length, drop, length-drop}
use lib.Seq.{drop_at}
use borrow.Author.Tests.{eqb-true, eqb-false, ne_eqb}
use mathlib.Core.Logic.{◌⊎◌, inl, inr}
use Rattle.ground.specs.Choice.{pick, either, within}
use Rattle.ground.proofs.Cases.{within_both, within_yes, clash, le_or_lt}
use Rattle.json_grammar.specs.Encode.{utf8}
use Rattle.json_grammar.specs.Grammar
use Rattle.json_grammar.specs.Reader.{got, bad, and_then, Piece, stands, closes, wrong, hexdig, hex_value, hex4, second, unicode, short_escape, escape, piece_of, takes, ends, chars_from, string_of}
use Rattle.json_grammar.proofs.Took.{Took, and_got, same_rest, same_value, never_bad}
use Rattle.ground.proofs.Joins.{cons_same}

-- Choices that end in a char.
module _ {v : List ℕ} {n : ℕ} where
  not_wrong : {B : Type 0} → wrong ≡ stands v n → B
  not_wrong e = absurd (let z : ◌≡◌ {A = ℕ} 0 1 = cc in omega arith)

  not_closes : {B : Type 0} → closes ≡ stands v n → B
  not_closes e = absurd (let z : ◌≡◌ {A = ℕ} 0 1 = cc in omega arith)

  -- the first of two, where the second is wrong
  pub chosen : (b : Bool) {p : Piece} → pick b p wrong ≡ stands v n → (b ≡ true) × (p ≡ stands v n)
  chosen true e = (refl, e)
  chosen false e = not_wrong e

  -- the second of two, where the first is wrong
  pub passed : (b : Bool) {p : Piece} → pick b wrong p ≡ stands v n → (b ≡ false) × (p ≡ stands v n)
  passed true e = not_wrong e
  passed false e = (refl, e)

same_bytes : {v w : List ℕ} {n m : ℕ} → stands v n ≡ stands w m → v ≡ w
same_bytes e = cc

same_size : {v w : List ℕ} {n m : ℕ} → stands v n ≡ stands w m → n ≡ m
same_size e = cc

-- Short escapes.
record Short (x : ℕ) (v : List ℕ) (n : ℕ) : Type 0 where
  byte : ℕ
  value : v ≡ byte ∷ []
  size : n ≡ 1
  is : Grammar.ShortEscape x byte

short_row : (c b x : ℕ) (t : Bool) {p : Piece} {v : List ℕ} {n : ℕ} → eqb x c ≡ t → Grammar.ShortEscape c b → (p ≡ stands v n → Short x v n) →
    pick t (stands (b ∷ []) 1) p ≡ stands v n → Short x v n
short_row c b x true q s k e = record { byte = b; value = sym (same_bytes e); size = sym (same_size e); is = rw (eqb-true x c q) s }
short_row c b x false q s k e = k e

short_took : (x : ℕ) {v : List ℕ} {n : ℕ} → short_escape x ≡ stands v n → Short x v n
unfolding short_escape
short_took x e =
    short_row 0x22 0x22 x (eqb x 0x22) refl Grammar.quotation_mark
    (short_row 0x5C 0x5C x (eqb x 0x5C) refl Grammar.reverse_solidus
    (short_row 0x2F 0x2F x (eqb x 0x2F) refl Grammar.solidus
    (short_row 0x62 0x08 x (eqb x 0x62) refl Grammar.backspace
    (short_row 0x66 0x0C x (eqb x 0x66) refl Grammar.form_feed
    (short_row 0x6E 0x0A x (eqb x 0x6E) refl Grammar.line_feed
    (short_row 0x72 0x0D x (eqb x 0x72) refl Grammar.carriage_return
    (short_row 0x74 0x09 x (eqb x 0x74) refl Grammar.tab (λ f. not_wrong f)))))))) e

-- Four hexadecimal digits.
hexdig_reads : (x : ℕ) → eqb (hexdig x) 16 ≡ false → Grammar.Hexdig x (hexdig x)
hexdig_reads x e = go (within 0x30 0x39 x) refl (within 0x41 0x46 x) refl (within 0x61 0x66 x) refl e
  where
    go : (a : Bool) → within 0x30 0x39 x ≡ a → (b : Bool) → within 0x41 0x46 x ≡ b → (c : Bool) → within 0x61 0x66 x ≡ c →
        eqb (pick a (x - 0x30) (pick b (x - 0x37) (pick c (x - 0x57) 16))) 16 ≡ false → Grammar.Hexdig x (pick a (x - 0x30) (pick b (x - 0x37) (pick c (x - 0x57) 16)))
    go true p b q c r f = Grammar.digit x p
    go false p true q c r f = Grammar.upper x q
    go false p false q true r f = Grammar.lower x r
    go false p false q false r f = clash refl f

record HexRead (t : List ℕ) : Type 0 where
  x : ℕ
  y : ℕ
  z : ℕ
  w : ℕ
  rest : List ℕ
  cut : t ≡ x ∷ y ∷ z ∷ w ∷ rest
  is : Grammar.Unicode (0x5C ∷ 0x75 ∷ x ∷ y ∷ z ∷ w ∷ []) (hex4 t)

hex_value_lem : (a b c d : ℕ) → eqb (hex_value a b c d) 65536 ≡ false →
    (eqb a 16 ≡ false) × (eqb b 16 ≡ false) × (eqb c 16 ≡ false) × (eqb d 16 ≡ false) × (hex_value a b c d ≡ ((a * 16 + b) * 16 + c) * 16 + d)
hex_value_lem a b c d e = go (eqb a 16) (eqb b 16) (eqb c 16) (eqb d 16) refl refl refl refl e
  where
    total : ℕ
    total = ((a * 16 + b) * 16 + c) * 16 + d

    go : (p q r s : Bool) → eqb a 16 ≡ p → eqb b 16 ≡ q → eqb c 16 ≡ r → eqb d 16 ≡ s →
        eqb (pick (either p (either q (either r s))) 65536 (((a * 16 + b) * 16 + c) * 16 + d)) 65536 ≡ false →
        (p ≡ false) × (q ≡ false) × (r ≡ false) × (s ≡ false) × (pick (either p (either q (either r s))) 65536 (((a * 16 + b) * 16 + c) * 16 + d) ≡ ((a * 16 + b) * 16 + c) * 16 + d)
    go true q r s ea eb ec ed f = clash refl f
    go false true r s ea eb ec ed f = clash refl f
    go false false true s ea eb ec ed f = clash refl f
    go false false false true ea eb ec ed f = clash refl f
    go false false false false ea eb ec ed f = (refl, refl, refl, refl, refl)

hex4_reads : (t : List ℕ) → eqb (hex4 t) 65536 ≡ false → HexRead t
unfolding hex4
hex4_reads (x ∷ y ∷ z ∷ w ∷ s) e =
    let h = hex_value_lem (hexdig x) (hexdig y) (hexdig z) (hexdig w) e in
    record {
      x = x;
      y = y;
      z = z;
      w = w;
      rest = s;
      cut = refl;
      is = rw h.4 (Grammar.u4 (hexdig_reads x h.0) (hexdig_reads y h.1) (hexdig_reads z h.2) (hexdig_reads w h.3));
    }
hex4_reads (x ∷ y ∷ z ∷ []) e = clash refl e
hex4_reads (x ∷ y ∷ []) e = clash refl e
hex4_reads (x ∷ []) e = clash refl e
hex4_reads [] e = clash refl e

-- What stands after an escape. Both surrogates of a pair, or a code point that is none.
record Second (u : ℕ) (t v : List ℕ) (n : ℕ) : Type 0 where
  part : List ℕ
  rest : List ℕ
  low : ℕ
  cut : t ≡ part ++ rest
  size : n ≡ 11
  long : length part ≡ 6
  is : Grammar.Unicode part low
  pairs : within 0xDC00 0xDFFF low ≡ true
  value : v ≡ utf8 (0x10000 + (u - 0xD800) * 0x400 + (low - 0xDC00))

two_heads : {x y a b : ℕ} {s t : List ℕ} → x ≡ a → y ≡ b → s ≡ t → x ∷ (y ∷ s) ≡ a ∷ (b ∷ t)
two_heads p q r = cc

surrogate_reads : (t : List ℕ) (low high : ℕ) → high < 65536 → within low high (hex4 t) ≡ true → HexRead t
surrogate_reads t low high h e = hex4_reads t (ne_eqb (hex4 t) 65536 (λ z. let w = within_both low high (hex4 t) e in omega arith))

second_took : (u : ℕ) (t : List ℕ) {v : List ℕ} {n : ℕ} → second u t ≡ stands v n → Second u t v n
unfolding second
second_took u [] e = not_wrong e
second_took u (x ∷ []) e = not_wrong e
second_took u (x ∷ (y ∷ s)) {v} {n} e =
    let (p, f) = chosen (eqb x 0x5C) e in
    let (q, g) = chosen (eqb y 0x75) f in
    let (r, h) = chosen (within 0xDC00 0xDFFF (hex4 s)) g in
    let d = surrogate_reads s 0xDC00 0xDFFF (lit< tt) r in
    record {
      part = 0x5C ∷ 0x75 ∷ d.x ∷ d.y ∷ d.z ∷ d.w ∷ [];
      rest = d.rest;
      low = hex4 s;
      cut = two_heads (eqb-true x 0x5C p) (eqb-true y 0x75 q) d.cut;
      size = sym (same_size h);
      long = refl;
      is = d.is;
      pairs = r;
      value = sym (same_bytes h);
    }

-- a char stands for the same bytes, written otherwise
char_as : {a v w : List ℕ} → w ≡ v → Grammar.Char a v → Grammar.Char a w
char_as e c = rw e c

-- a char with an escape: `s` is what follows the `\`
record Escaped (s v : List ℕ) (n : ℕ) : Type 0 where
  part : List ℕ
  rest : List ℕ
  cut : s ≡ part ++ rest
  size : length part ≡ n
  is : Grammar.Char (0x5C ∷ part) v

paired : (t v : List ℕ) (n : ℕ) → within 0xD800 0xDBFF (hex4 t) ≡ true → second (hex4 t) (drop 4 t) ≡ stands v n → Escaped (0x75 ∷ t) v n
paired t v n p e =
    let d = surrogate_reads t 0xD800 0xDBFF (lit< tt) p in
    let m = second_took (hex4 t) (drop 4 t) e in
    let after : drop 4 t ≡ d.rest = ap (drop 4) d.cut in
    record {
      part = 0x75 ∷ d.x ∷ d.y ∷ d.z ∷ d.w ∷ m.part;
      rest = m.rest;
      cut = ap (λ l. 0x75 ∷ l) (d.cut ∙ ap (λ l. d.x ∷ d.y ∷ d.z ∷ d.w ∷ l) (sym after ∙ m.cut));
      size = let l = m.long in let z = m.size in omega arith;
      is = char_as m.value (Grammar.pair d.is m.is p m.pairs);
    }

single : (t v : List ℕ) (n : ℕ) → eqb (hex4 t) 65536 ≡ false → within 0xD800 0xDFFF (hex4 t) ≡ false → stands (utf8 (hex4 t)) 5 ≡ stands v n → Escaped (0x75 ∷ t) v n
single t v n p q e =
    let d = hex4_reads t p in
    record {
      part = 0x75 ∷ d.x ∷ d.y ∷ d.z ∷ d.w ∷ [];
      rest = d.rest;
      cut = ap (λ l. 0x75 ∷ l) d.cut;
      size = same_size e;
      is = char_as (sym (same_bytes e)) (Grammar.plane d.is q);
    }

no_surrogate : (u : ℕ) → within 0xD800 0xDBFF u ≡ false → within 0xDC00 0xDFFF u ≡ false → within 0xD800 0xDFFF u ≡ false
no_surrogate u p q = go (within 0xD800 0xDFFF u) refl (le_or_lt u 0xDBFF)
  where
    go : (b : Bool) → within 0xD800 0xDFFF u ≡ b → (u ≤ 0xDBFF) ⊎ (0xDBFF < u) → b ≡ false
    go false e o = refl
    go true e (inl l) = clash (within_yes 0xD800 0xDBFF u (within_both 0xD800 0xDFFF u e).0 l) p
    go true e (inr l) = clash (within_yes 0xDC00 0xDFFF u l (within_both 0xD800 0xDFFF u e).1) q

unicode_took : (t v : List ℕ) (n : ℕ) → unicode t ≡ stands v n → Escaped (0x75 ∷ t) v n
unfolding unicode
unicode_took t v n e = let (p, f) = passed (eqb (hex4 t) 65536) e in go p (within 0xD800 0xDBFF (hex4 t)) refl f
  where
    go : eqb (hex4 t) 65536 ≡ false → (b : Bool) → within 0xD800 0xDBFF (hex4 t) ≡ b →
        pick b (second (hex4 t) (drop 4 t)) (pick (within 0xDC00 0xDFFF (hex4 t)) wrong (stands (utf8 (hex4 t)) 5)) ≡ stands v n → Escaped (0x75 ∷ t) v n
    go p true q f = paired t v n q f
    go p false q f = let (r, g) = passed (within 0xDC00 0xDFFF (hex4 t)) f in single t v n p (no_surrogate (hex4 t) q r) g

escape_took : (s v : List ℕ) (n : ℕ) → escape s ≡ stands v n → Escaped s v n
unfolding escape
escape_took [] v n e = not_wrong e
escape_took (x ∷ s) v n e = go (eqb x 0x75) refl e
  where
    go : (b : Bool) → eqb x 0x75 ≡ b → pick b (unicode s) (short_escape x) ≡ stands v n → Escaped (x ∷ s) v n
    go true q f = rw (eqb-true x 0x75 q) (unicode_took s v n f)
    go false q f =
        let d = short_took x f in
        record { part = x ∷ []; rest = s; cut = refl; size = sym d.size; is = char_as d.value (Grammar.short d.is) }

-- A char at the head: it takes its first octet and `n` more.
pub record CharTook (s v : List ℕ) (n : ℕ) : Type 0 where
  pub part : List ℕ
  pub rest : List ℕ
  pub cut : s ≡ part ++ rest
  pub size : length part ≡ suc n
  pub is : Grammar.Char part v

unescaped : (x : ℕ) → eqb x 0x22 ≡ false → eqb x 0x5C ≡ false → within 0x20 0xFF x ≡ true → Grammar.Char (x ∷ []) (x ∷ [])
unescaped x p q e = go (le_or_lt x 0x21) (le_or_lt x 0x5B)
  where
    b : (0x20 ≤ x) × (x ≤ 0xFF)
    b = within_both 0x20 0xFF x e

    go : (x ≤ 0x21) ⊎ (0x21 < x) → (x ≤ 0x5B) ⊎ (0x5B < x) → Grammar.Char (x ∷ []) (x ∷ [])
    go (inl h) o = Grammar.unescaped_low x (within_yes _ _ x (omega (arith, b.0)) (omega arith))
    go (inr h) (inl k) = Grammar.unescaped_middle x (within_yes _ _ x (let n = eqb-false x 0x22 p in omega arith) (omega arith))
    go (inr h) (inr k) = Grammar.unescaped_high x (within_yes _ _ x (let n = eqb-false x 0x5C q in omega arith) (omega (arith, b.1)))

pub piece_took : (s v : List ℕ) (n : ℕ) → piece_of s ≡ stands v n → CharTook s v n
unfolding piece_of
piece_took [] v n e = not_wrong e
piece_took (x ∷ s) v n e = go (eqb x 0x22) refl (eqb x 0x5C) refl (within 0x20 0xFF x) refl e
  where
    go : (a : Bool) → eqb x 0x22 ≡ a → (b : Bool) → eqb x 0x5C ≡ b → (c : Bool) → within 0x20 0xFF x ≡ c →
        pick a closes (pick b (escape s) (pick c (stands (x ∷ []) 0) wrong)) ≡ stands v n → CharTook (x ∷ s) v n
    go true p b q c r f = not_closes f
    go false p true q c r f =
        let d = escape_took s v n f in
        record { part = x ∷ d.part; rest = d.rest; cut = ap (λ l. x ∷ l) d.cut; size = ap suc d.size; is = rw (eqb-true x 0x5C q) d.is }
    go false p false q true r f =
        record { part = x ∷ []; rest = s; cut = refl; size = ap suc (same_size f); is = char_as (sym (same_bytes f)) (unescaped x p q r) }
    go false p false q false r f = not_wrong f

-- Strings.
pub chars_skip : (n : ℕ) (s : List ℕ) → chars_from n s ≡ chars_from 0 (drop n s)
unfolding chars_from
chars_skip zero s = refl
chars_skip (suc n) [] = refl
chars_skip (suc n) (x ∷ s) = chars_skip n s

-- no escape closes a string
record Goes (p : Piece) : Type 0 where
  on : p ≡ closes → ⊥

goes_char : {v : List ℕ} {n : ℕ} → Goes (stands v n)
goes_char = record { on = λ e. let z : ◌≡◌ {A = ℕ} 0 1 = cc in omega arith }

goes_wrong : Goes wrong
goes_wrong = record { on = λ e. let z : ◌≡◌ {A = ℕ} 0 1 = cc in omega arith }

goes_on : (b : Bool) {p q : Piece} → Goes p → Goes q → Goes (pick b p q)
goes_on true g h = g
goes_on false g h = h

second_goes : (u : ℕ) (s : List ℕ) → Goes (second u s)
unfolding second
second_goes u [] = goes_wrong
second_goes u (x ∷ []) = goes_wrong
second_goes u (x ∷ (y ∷ s)) = goes_on (eqb x 0x5C) (goes_on (eqb y 0x75) (goes_on (within 0xDC00 0xDFFF (hex4 s)) goes_char goes_wrong) goes_wrong) goes_wrong

unicode_goes : (s : List ℕ) → Goes (unicode s)
unfolding unicode
unicode_goes s =
    goes_on (eqb (hex4 s) 65536) goes_wrong
    (goes_on (within 0xD800 0xDBFF (hex4 s)) (second_goes (hex4 s) (drop 4 s)) (goes_on (within 0xDC00 0xDFFF (hex4 s)) goes_wrong goes_char))

short_goes : (x : ℕ) → Goes (short_escape x)
unfolding short_escape
short_goes x =
    goes_on (eqb x 0x22) goes_char (goes_on (eqb x 0x5C) goes_char (goes_on (eqb x 0x2F) goes_char (goes_on (eqb x 0x62) goes_char
    (goes_on (eqb x 0x66) goes_char (goes_on (eqb x 0x6E) goes_char (goes_on (eqb x 0x72) goes_char (goes_on (eqb x 0x74) goes_char goes_wrong)))))))

escape_goes : (s : List ℕ) → Goes (escape s)
unfolding escape
escape_goes [] = goes_wrong
escape_goes (x ∷ s) = goes_on (eqb x 0x75) (unicode_goes s) (short_goes x)

pub closes_quote : (x : ℕ) (s : List ℕ) → piece_of (x ∷ s) ≡ closes → x ≡ 0x22
unfolding piece_of
closes_quote x s e = go (eqb x 0x22) refl (eqb x 0x5C) (within 0x20 0xFF x) (escape s) (escape_goes s).on e
  where
    go : (a : Bool) → eqb x 0x22 ≡ a → (b c : Bool) (p : Piece) → (p ≡ closes → ⊥) → pick a closes (pick b p (pick c (stands (x ∷ []) 0) wrong)) ≡ closes → x ≡ 0x22
    go true q b c p n f = eqb-true x 0x22 q
    go false q true c p n f = absurd (n f)
    go false q false true p n f = absurd (let z : ◌≡◌ {A = ℕ} 0 1 = cc in omega arith)
    go false q false false p n f = absurd (let z : ◌≡◌ {A = ℕ} 0 1 = cc in omega arith)

pub record CharsTook (s v r : List ℕ) : Type 0 where
  pub part : List ℕ
  pub cut : s ≡ part ++ (0x22 ∷ r)
  pub is : Grammar.Chars part v

chars_as : {s v w r q : List ℕ} → v ≡ w → r ≡ q → CharsTook s v r → CharsTook s w q
chars_as {s} {v} {w} {r} {q} e f t = rw f at (value t)
  where
    value : CharsTook s v r → CharsTook s w r
    value u = rw e at u

-- a char, and then the chars of what it leaves
then_chars : {s v w r : List ℕ} {n : ℕ} (c : CharTook s v n) → CharsTook c.rest w r → CharsTook s (v ++ w) r
then_chars {r = r} c t = record {
  part = c.part ++ t.part;
  cut = c.cut ∙ ap (λ l. c.part ++ l) t.cut ∙ sym (append_assoc c.part t.part (0x22 ∷ r));
  is = Grammar.char c.is t.is;
}

after_char : {x : ℕ} {s v : List ℕ} {n : ℕ} (c : CharTook (x ∷ s) v n) → drop n s ≡ c.rest
after_char {x} {s} {v} {n} c = ap (drop (suc n)) c.cut ∙ drop_at c.part c.rest (suc n) c.size

char_shortens : {x : ℕ} {s v : List ℕ} {n : ℕ} (c : CharTook (x ∷ s) v n) → length c.rest ≤ length s
char_shortens {x} {s} {v} {n} c = rw (← after_char c) (rw length-drop (omega arith))

-- the chars after a char
char_then : (fuel x : ℕ) (s w v r : List ℕ) (n : ℕ) → piece_of (x ∷ s) ≡ stands w n → length s ≤ fuel →
    ((t u q : List ℕ) → length t ≤ fuel → chars_from 0 t ≡ got u q → CharsTook t u q) → and_then (chars_from n s) (λ u q. got (w ++ u) q) ≡ got v r → CharsTook (x ∷ s) v r
char_then fuel x s w v r n p h again e =
    let c = piece_took (x ∷ s) w n p in
    let t = and_got (chars_from n s) e in
    let left : chars_from 0 c.rest ≡ got t.first t.left_over = ap (chars_from 0) (sym (after_char c)) ∙ sym (chars_skip n s) ∙ t.reads in
    let i = again c.rest t.first t.left_over (let l = char_shortens c in omega arith) left in
    chars_as (same_value t.goes) (same_rest t.goes) (then_chars c i)

chars_step : (fuel : ℕ) (s v r : List ℕ) → length s ≤ suc fuel → ((t u q : List ℕ) → length t ≤ fuel → chars_from 0 t ≡ got u q → CharsTook t u q) →
    chars_from 0 s ≡ got v r → CharsTook s v r
unfolding chars_from
chars_step fuel [] v r h again e = never_bad e
chars_step fuel (x ∷ s) v r h again e = go (piece_of (x ∷ s)) refl e
  where
    go : (p : Piece) → piece_of (x ∷ s) ≡ p → ends p s (chars_from (takes p) s) ≡ got v r → CharsTook (x ∷ s) v r
    go (stands w n) q f = char_then fuel x s w v r n q (le_of_suc-le-suc h) again f
    go closes q f =
        let y = closes_quote x s q in
        chars_as (same_value f) (same_rest f) (record { part = []; cut = ap (λ c. c ∷ s) y; is = Grammar.no_char })
    go wrong q f = never_bad f

chars_empty : (s v r : List ℕ) → length s ≤ 0 → chars_from 0 s ≡ got v r → CharsTook s v r
unfolding chars_from
chars_empty [] v r h e = never_bad e
chars_empty (x ∷ s) v r h e = absurd (omega arith)

chars_took : (fuel : ℕ) (s v r : List ℕ) → length s ≤ fuel → chars_from 0 s ≡ got v r → CharsTook s v r
chars_took zero s v r h e = chars_empty s v r h e
chars_took (suc fuel) s v r h e = chars_step fuel s v r h (λ t u q. chars_took fuel t u q) e

pub string_took : (s : List ℕ) {v r : List ℕ} → string_of s ≡ got v r → Took (λ a. Grammar.String a v) s r
unfolding string_of
string_took [] e = never_bad e
string_took (x ∷ s) {v} {r} e = go (eqb x 0x22) refl e
  where
    go : (b : Bool) → eqb x 0x22 ≡ b → pick b (chars_from 0 s) bad ≡ got v r → Took (λ a. Grammar.String a v) (x ∷ s) r
    go true q f =
        let t = chars_took (length s) s v r (omega arith) f in
        record {
          part = 0x22 ∷ (t.part ++ (0x22 ∷ []));
          cut = cons_same (eqb-true x 0x22 q) (t.cut ∙ sym (append_assoc t.part (0x22 ∷ []) r));
          is = Grammar.quoted t.is;
        }
    go false q f = never_bad f
