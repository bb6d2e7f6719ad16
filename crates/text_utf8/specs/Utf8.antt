-- UTF-8: RFC 3629, sections 3 and 4, and the length that document 01's refusal 2 gives.
use Rattle.std.specs.Prelude.{Bool, true, false, List, [], ◌∷◌, ℕ, zero, suc, pred, ◌+◌, ◌*◌, ◌-◌, eqb, Result, Ok, Err}
use Rattle.ground.specs.Choice.{pick, within}
use Rattle.text_utf8.specs.declared.sequence.Sequence.{Sequence}
use Rattle.text_utf8.specs.declared.sequence.Sequence.TheVariants.{End, Good, Bad}
use Rattle.text_utf8.specs.declared.check.Broken.{Broken}

abbrev pub broken : ℕ → ℕ → Broken
broken at length = record { at = at; length = length }

-- What a first octet settles: how many octets its sequence has, the octet with none of its x bits set (section 3), and the bounds of the
-- second octet (section 4).
pub record Lead : Type 0 where
  pub octets : ℕ
  pub mark : ℕ
  pub low : ℕ
  pub high : ℕ

abbrev pub lead : ℕ → ℕ → ℕ → ℕ → Lead
lead octets mark low high = record { octets = octets; mark = mark; low = low; high = high }

-- Section 4, line by line. No production begins with any other octet, which is 0 octets here: 80 to C1 and F5 to FF.
unfoldable pub lead_of : ℕ → Lead
lead_of x =
    pick (within 0x00 0x7F x) (lead 1 0x00 0x80 0xBF)  -- UTF8-1 = %x00-7F
    (pick (within 0xC2 0xDF x) (lead 2 0xC0 0x80 0xBF)  -- UTF8-2 = %xC2-DF UTF8-tail
    (pick (within 0xE0 0xE0 x) (lead 3 0xE0 0xA0 0xBF)  -- UTF8-3 = %xE0 %xA0-BF UTF8-tail /
    (pick (within 0xE1 0xEC x) (lead 3 0xE0 0x80 0xBF)  --          %xE1-EC 2( UTF8-tail ) /
    (pick (within 0xED 0xED x) (lead 3 0xE0 0x80 0x9F)  --          %xED %x80-9F UTF8-tail /
    (pick (within 0xEE 0xEF x) (lead 3 0xE0 0x80 0xBF)  --          %xEE-EF 2( UTF8-tail )
    (pick (within 0xF0 0xF0 x) (lead 4 0xF0 0x90 0xBF)  -- UTF8-4 = %xF0 %x90-BF 2( UTF8-tail ) /
    (pick (within 0xF1 0xF3 x) (lead 4 0xF0 0x80 0xBF)  --          %xF1-F3 3( UTF8-tail ) /
    (pick (within 0xF4 0xF4 x) (lead 4 0xF0 0x80 0x8F)  --          %xF4 %x80-8F 2( UTF8-tail )
    (lead 0 0x00 0x80 0xBF)))))))))

-- The octets after the first: so many are still to come, the next between `low` and `high` and all later ones UTF8-tail = %x80-BF. Each
-- has six x bits (section 3). `taken` octets are a start of a good sequence. So an octet that does not fit leaves that length (document 01:
-- "the longest start of a good sequence"), and a text that ends here leaves 0 ("0 if the text ends in one").
unfoldable pub tails : ℕ → ℕ → ℕ → ℕ → ℕ → List ℕ → Sequence
tails zero low high code taken s = Good code taken
tails (suc n) low high code taken [] = Bad 0
tails (suc n) low high code taken (x ∷ s) =
    let goes = tails n 0x80 0xBF (code * 64 + (x - 0x80)) (taken + 1) s in
    pick (within low high x) goes (Bad taken)

-- a sequence whose first octet `x` settles `l`; where no production begins with `x` the length is 1 ("at least 1")
unfoldable pub after_lead : Lead → ℕ → List ℕ → Sequence
after_lead l x s =
    let goes = tails (pred l.octets) l.low l.high (x - l.mark) 1 s in
    pick (eqb l.octets 0) (Bad 1) goes

-- the sequence at the head of a text: its code point and length, or the length of its longest good start
unfoldable pub sequence_of : List ℕ → Sequence
sequence_of [] = End
sequence_of (x ∷ s) = after_lead (lead_of x) x s

-- octets of a sequence beyond its first; where the sequence is bad the next one is looked for right after the first octet
abbrev pub beyond : Sequence → ℕ
beyond End = 0
beyond (Good code length) = pred length
beyond (Bad length) = 0

-- a text as its sequences; `n` octets at its head belong to the sequence before
unfoldable pub pieces_from : ℕ → List ℕ → List Sequence
pieces_from n [] = []
pieces_from zero (x ∷ s) = sequence_of (x ∷ s) ∷ pieces_from (beyond (sequence_of (x ∷ s))) s
pieces_from (suc n) (x ∷ s) = pieces_from n s

abbrev pub pieces : List ℕ → List Sequence
pieces s = pieces_from 0 s

-- document 01, refusal 2: the valid bytes before the first bad sequence, and its length
unfoldable pub check_from : ℕ → List Sequence → Result Unit Broken
check_from at [] = Ok tt
check_from at (End ∷ ps) = Ok tt
check_from at (Good code length ∷ ps) = check_from (at + length) ps
check_from at (Bad length ∷ ps) = Err (broken at length)

abbrev pub check_of : List ℕ → Result Unit Broken
check_of s = check_from 0 (pieces s)

-- a text is UTF-8, or not
abbrev pub is_valid : Result Unit Broken → Bool
is_valid (Ok _) = true
is_valid (Err r) = false

abbrev pub is_utf8 : List ℕ → Bool
is_utf8 s = is_valid (check_of s)
