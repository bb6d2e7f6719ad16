-- Decoding and encoding agree: the sequence read from a code point's octets is that code point. Assumes nothing.
use mathlib.Core.Path.{◌≡◌, ◌∙◌, ap}
use mathlib.Core.Bool.{Bool, true, false}
use mathlib.Core.List.{List, [], ◌∷◌, ◌++◌}
use Prim.Native.Nat.{ℕ, zero, suc, pred, ◌+◌, ◌*◌, ◌-◌, ◌/◌, ◌%◌, ◌≤◌, ◌<◌}
use native.Mathlib.Omega.{arith}
use lib.Dec.{T, eqb}
use lib.ListN.{length}
use Rattle.ground.specs.Choice.{pick, within}
use Rattle.ground.proofs.Table.{all, on_range, range_equal}
use Rattle.text_utf8.specs.declared.sequence.Sequence.{Sequence}
use Rattle.text_utf8.specs.declared.sequence.Sequence.TheVariants.{Good, Bad}
use Rattle.text_utf8.specs.Utf8.{Lead, lead_of, tails, after_lead, sequence_of}
use Rattle.text_utf8.proofs.Grammatical.{char_reads}
use Rattle.text_white.specs.White.{is_white}
use Rattle.text_white.specs.Trim.{white_sequence, starts_white}
use Rattle.json_grammar.specs.Encode.{two_octets, three_octets, four_octets, utf8}
use Rattle.json_grammar.proofs.EncodeLaws.{utf8_char, by_form}

-- the code point of the octets after the first
unfoldable code_from : ℕ → ℕ → List ℕ → ℕ
code_from zero code s = code
code_from (suc n) code [] = code
code_from (suc n) code (x ∷ s) = code_from n (code * 64 + (x - 0x80)) s

tails_read : (n low high code taken : ℕ) (s : List ℕ) {d m : ℕ} → tails n low high code taken s ≡ Good d m → d ≡ code_from n code s
unfolding tails code_from
tails_read zero low high code taken s e = cc
tails_read (suc n) low high code taken [] e = absurd (let z : ◌≡◌ {A = ℕ} 0 1 = cc in omega arith)
tails_read (suc n) low high code taken (x ∷ s) {d} {m} e =
    go (within low high x) (tails_read n 0x80 0xBF (code * 64 + (x - 0x80)) (taken + 1) s) e
  where
    goes : Sequence
    goes = tails n 0x80 0xBF (code * 64 + (x - 0x80)) (taken + 1) s

    go : (b : Bool) → (goes ≡ Good d m → d ≡ code_from n (code * 64 + (x - 0x80)) s) → pick b goes (Bad taken) ≡ Good d m →
        d ≡ code_from n (code * 64 + (x - 0x80)) s
    go true again f = again f
    go false again f = absurd (let z : ◌≡◌ {A = ℕ} 0 1 = cc in omega arith)

sequence_read : (x : ℕ) (s : List ℕ) {d m : ℕ} → sequence_of (x ∷ s) ≡ Good d m →
    d ≡ code_from (pred (lead_of x).octets) (x - (lead_of x).mark) s
unfolding sequence_of after_lead
sequence_read x s {d} {m} e = go (eqb (lead_of x).octets 0) e
  where
    goes : Sequence
    goes = tails (pred (lead_of x).octets) (lead_of x).low (lead_of x).high (x - (lead_of x).mark) 1 s

    go : (b : Bool) → pick b (Bad 1) goes ≡ Good d m → d ≡ code_from (pred (lead_of x).octets) (x - (lead_of x).mark) s
    go true f = absurd (let z : ◌≡◌ {A = ℕ} 0 1 = cc in omega arith)
    go false f = tails_read (pred (lead_of x).octets) (lead_of x).low (lead_of x).high (x - (lead_of x).mark) 1 s f

-- what first octets settle, by one test over all of them
abbrev Settles : (Lead → ℕ) → ℕ → ℕ → ℕ → Type 0
Settles part low high value = T (all (on_range low high (λ y. eqb (part (lead_of y)) value)) 256)

settled : (low high octets mark : ℕ) → high < 256 → Settles (λ l. l.octets) low high octets → Settles (λ l. l.mark) low high mark →
    (x : ℕ) → low ≤ x → x ≤ high → ((lead_of x).octets ≡ octets) × ((lead_of x).mark ≡ mark)
settled low high octets mark h s t x l u = (
  range_equal low high 256 h (λ y. (lead_of y).octets) (λ y. octets) s x l u,
  range_equal low high 256 h (λ y. (lead_of y).mark) (λ y. mark) t x l u,
)

module _ (x : ℕ) where
  first_one : 0x00 ≤ x → x ≤ 0x7F → ((lead_of x).octets ≡ 1) × ((lead_of x).mark ≡ 0x00)
  unfolding lead_of
  first_one = settled 0x00 0x7F 1 0x00 (omega arith) tt tt x

  first_two : 0xC2 ≤ x → x ≤ 0xDF → ((lead_of x).octets ≡ 2) × ((lead_of x).mark ≡ 0xC0)
  unfolding lead_of
  first_two = settled 0xC2 0xDF 2 0xC0 (omega arith) tt tt x

  first_three : 0xE0 ≤ x → x ≤ 0xEF → ((lead_of x).octets ≡ 3) × ((lead_of x).mark ≡ 0xE0)
  unfolding lead_of
  first_three = settled 0xE0 0xEF 3 0xE0 (omega arith) tt tt x

  first_four : 0xF0 ≤ x → x ≤ 0xF4 → ((lead_of x).octets ≡ 4) × ((lead_of x).mark ≡ 0xF0)
  unfolding lead_of
  first_four = settled 0xF0 0xF4 4 0xF0 (omega arith) tt tt x

-- Numbers of two, three and four digits in base 64, behind their marks.
two_digits : (c : ℕ) → (0xC0 + c / 64 - 0xC0) * 64 + (0x80 + c % 64 - 0x80) ≡ c
two_digits c = omega arith

three_digits : (c : ℕ) → ((0xE0 + c / 4096 - 0xE0) * 64 + (0x80 + c / 64 % 64 - 0x80)) * 64 + (0x80 + c % 64 - 0x80) ≡ c
three_digits c =
    let two : c / 64 / 64 ≡ c / 4096 = omega arith in
    let high : c / 4096 * 64 + c / 64 % 64 ≡ c / 64 = rw (← two) (omega arith) in
    omega arith

four_digits : (c : ℕ) →
    (((0xF0 + c / 262144 - 0xF0) * 64 + (0x80 + c / 4096 % 64 - 0x80)) * 64 + (0x80 + c / 64 % 64 - 0x80)) * 64 +
    (0x80 + c % 64 - 0x80) ≡ c
four_digits c =
    let three : c / 4096 / 64 ≡ c / 262144 = omega arith in
    let two : c / 64 / 64 ≡ c / 4096 = omega arith in
    let higher : c / 262144 * 64 + c / 4096 % 64 ≡ c / 4096 = rw (← three) (omega arith) in
    let high : c / 4096 * 64 + c / 64 % 64 ≡ c / 64 = rw (← two) (omega arith) in
    omega arith

-- Each form reads as its code point.
abbrev ReadAs : ℕ → List ℕ → Type 0
ReadAs c octets = (r : List ℕ) (d m : ℕ) → sequence_of (octets ++ r) ≡ Good d m → d ≡ c

module _ (c : ℕ) where
  one_reads : c < 0x80 → ReadAs c (c ∷ [])
  unfolding code_from
  one_reads h r d m e =
      let (n, k) = first_one c (omega arith) (omega arith) in
      sequence_read c r e ∙ rw (n, k) (omega arith)

  two_reads : 0x80 ≤ c → c < 0x800 → ReadAs c (two_octets c)
  unfolding code_from
  two_reads l h r d m e =
      let (n, k) = first_two (0xC0 + c / 64) (omega arith) (omega arith) in
      sequence_read (0xC0 + c / 64) ((0x80 + c % 64) ∷ r) e ∙ rw (n, k) (two_digits c)

  three_reads : 0x800 ≤ c → c < 0x10000 → ReadAs c (three_octets c)
  unfolding code_from
  three_reads l h r d m e =
      let (n, k) = first_three (0xE0 + c / 4096) (omega arith) (omega arith) in
      sequence_read (0xE0 + c / 4096) ((0x80 + c / 64 % 64) ∷ (0x80 + c % 64) ∷ r) e ∙ rw (n, k) (three_digits c)

  four_reads : c < 0x110000 → 0x10000 ≤ c → ReadAs c (four_octets c)
  unfolding code_from
  four_reads h l r d m e =
      let (n, k) = first_four (0xF0 + c / 262144) (omega arith) (omega arith) in
      sequence_read (0xF0 + c / 262144) ((0x80 + c / 4096 % 64) ∷ (0x80 + c / 64 % 64) ∷ (0x80 + c % 64) ∷ r) e
      ∙ rw (n, k) (four_digits c)

  pub encoded_read : c < 0x110000 → within 0xD800 0xDFFF c ≡ false → (r : List ℕ) → sequence_of (utf8 c ++ r) ≡ Good c (length (utf8 c))
  encoded_read h e r =
      let (d, q) = char_reads (utf8_char c h e) r in
      let is : d ≡ c = by_form (ReadAs c) c one_reads two_reads three_reads (four_reads h) r d (length (utf8 c)) q in
      q ∙ ap (λ x. Good x (length (utf8 c))) is

-- So white space rests on the encoding alone: a text that begins with the octets of a code point starts with white space exactly where that
-- is white space.
pub encoded_white : (c : ℕ) → c < 0x110000 → within 0xD800 0xDFFF c ≡ false → (r : List ℕ) → starts_white (utf8 c ++ r) ≡ is_white c
encoded_white c h e r = ap white_sequence (encoded_read c h e r)
