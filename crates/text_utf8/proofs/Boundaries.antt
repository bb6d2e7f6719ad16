-- UTF-8 finds its own characters: a well-formed text may be cut before every octet that is no UTF8-tail, and both parts are well formed.
-- What is made of well-formed texts. Assumes nothing.
use Rattle.std.specs.Prelude.{Ok}
use mathlib.Core.Path.{◌≡◌, refl, sym, ◌∙◌, ap}
use mathlib.Core.Bool.{true}
use mathlib.Core.List.{List, [], ◌∷◌, ◌++◌, map, append-nil, append_assoc, map-append}
use Prim.Native.Nat.{ℕ, zero, suc, ◌+◌, ◌-◌, ◌≤◌, ◌<◌}
use native.Mathlib.Omega.{arith}
use native.Mathlib.Numerals.{add-one}
use native.Mathlib.Nat.{add-zero}
use lib.ListN.{length, get_or, take, drop, replicate, drop_of_length-le, take-append-drop}
use lib.Seq.{drop-cons, drop-drop, get_or-drop}
use Rattle.ground.specs.Abnf.{octet, ◌⨾◌, left, right, none, more}
use Rattle.ground.specs.Choice.{within}
use Rattle.ground.specs.Put.{between}
use Rattle.ground.proofs.Cases.{within_yes, within_both}
use Rattle.text_utf8.specs.declared.sequence.Sequence.{Sequence}
use Rattle.text_utf8.specs.declared.sequence.Sequence.TheVariants.{End, Good, Bad}
use Rattle.text_utf8.specs.Grammar.{Utf8Char, Utf8Octets}
use Rattle.text_utf8.specs.Utf8.{sequence_of, pieces, check_from, check_of}
use Rattle.text_utf8.proofs.Pieces.{pieces_good}
use Rattle.text_utf8.proofs.Grammatical.{good_is_char, valid_iff}
use Rattle.ground.proofs.Joins.{cons_same}

pub octets_as : {s t : List ℕ} → s ≡ t → Utf8Octets s → Utf8Octets t
octets_as e o = rw e at o

-- What is made of well-formed texts.
pub char_octets : {a : List ℕ} → Utf8Char a → Utf8Octets a
char_octets {a} c = octets_as (append-nil a) (more c none)

pub append_octets : {a b : List ℕ} → Utf8Octets a → Utf8Octets b → Utf8Octets (a ++ b)
append_octets none w = w
append_octets {b = b} (more {a = c} {b = d} k o) w = octets_as (sym (append_assoc c d b)) (more k (append_octets o w))

pub ascii_octets : (x : ℕ) → x < 0x80 → Utf8Octets (x ∷ [])
ascii_octets x h = char_octets (left (octet x (within_yes 0x00 0x7F x (omega arith) (omega arith))))

-- one ASCII octet in front
pub cons_octets : (x : ℕ) {s : List ℕ} → x < 0x80 → Utf8Octets s → Utf8Octets (x ∷ s)
cons_octets x h o = append_octets (ascii_octets x h) o

-- and behind
pub snoc_octets : (x : ℕ) {s : List ℕ} → x < 0x80 → Utf8Octets s → Utf8Octets (s ++ (x ∷ []))
snoc_octets x h o = append_octets o (ascii_octets x h)

pub replicate_octets : (n x : ℕ) → x < 0x80 → Utf8Octets (replicate n x)
replicate_octets zero x h = none
replicate_octets (suc n) x h = cons_octets x h (replicate_octets n x h)

-- well-formed texts
pub data Texts : List (List ℕ) → Type 0 where
  no_text : Texts []
  text : {l : List ℕ} {ls : List (List ℕ)} → Utf8Octets l → Texts ls → Texts (l ∷ ls)

-- octets that are UTF8-tail
data Tails : List ℕ → Type 0 where
  no_tail : Tails []
  tail : {x : ℕ} {s : List ℕ} → 0x80 ≤ x → x ≤ 0xBF → Tails s → Tails (x ∷ s)

-- no UTF8-tail stands at the head
pub data Fresh : List ℕ → Type 0 where
  at_end : Fresh []
  at_low : {x : ℕ} {s : List ℕ} → x < 0x80 → Fresh (x ∷ s)
  at_high : {x : ℕ} {s : List ℕ} → 0xC0 ≤ x → Fresh (x ∷ s)

-- a UTF8-char: one ASCII octet, or an octet from C2 on and then UTF8-tail alone
data Shape : List ℕ → Type 0 where
  single : {x : ℕ} → x < 0x80 → Shape (x ∷ [])
  several : {x : ℕ} {s : List ℕ} → 0xC0 ≤ x → Tails s → Shape (x ∷ s)

a_tail : (low high : ℕ) {x : ℕ} {s : List ℕ} → 0x80 ≤ low → high ≤ 0xBF → within low high x ≡ true → Tails s → Tails (x ∷ s)
a_tail low high {x} l h e t = let w = within_both low high x e in tail {x = x} (omega arith) (omega arith) t

a_lead : (low high : ℕ) {x : ℕ} {s : List ℕ} → 0xC0 ≤ low → within low high x ≡ true → Tails s → Shape (x ∷ s)
a_lead low high {x} l e t = let w = within_both low high x e in several {x = x} (omega arith) t

shape : {a : List ℕ} → Utf8Char a → Shape a
shape (left (octet x e)) = let w = within_both 0x00 0x7F x e in single {x = x} (omega arith)
shape (right (left (octet x e ⨾ octet y p))) = a_lead 0xC2 0xDF (omega arith) e (a_tail 0x80 0xBF (omega arith) (omega arith) p no_tail)
shape (right (right (left (left (octet x e ⨾ octet y p ⨾ octet z q))))) =
    a_lead 0xE0 0xE0 (omega arith) e (a_tail 0xA0 0xBF (omega arith) (omega arith) p (a_tail 0x80 0xBF (omega arith) (omega arith) q no_tail))
shape (right (right (left (right (left (octet x e ⨾ octet y p ⨾ octet z q)))))) =
    a_lead 0xE1 0xEC (omega arith) e (a_tail 0x80 0xBF (omega arith) (omega arith) p (a_tail 0x80 0xBF (omega arith) (omega arith) q no_tail))
shape (right (right (left (right (right (left (octet x e ⨾ octet y p ⨾ octet z q))))))) =
    a_lead 0xED 0xED (omega arith) e (a_tail 0x80 0x9F (omega arith) (omega arith) p (a_tail 0x80 0xBF (omega arith) (omega arith) q no_tail))
shape (right (right (left (right (right (right (octet x e ⨾ octet y p ⨾ octet z q))))))) =
    a_lead 0xEE 0xEF (omega arith) e (a_tail 0x80 0xBF (omega arith) (omega arith) p (a_tail 0x80 0xBF (omega arith) (omega arith) q no_tail))
shape (right (right (right (left (octet x e ⨾ octet y p ⨾ octet z q ⨾ octet w o))))) =
    a_lead 0xF0 0xF0 (omega arith) e (a_tail 0x90 0xBF (omega arith) (omega arith) p
    (a_tail 0x80 0xBF (omega arith) (omega arith) q (a_tail 0x80 0xBF (omega arith) (omega arith) o no_tail)))
shape (right (right (right (right (left (octet x e ⨾ octet y p ⨾ octet z q ⨾ octet w o)))))) =
    a_lead 0xF1 0xF3 (omega arith) e (a_tail 0x80 0xBF (omega arith) (omega arith) p
    (a_tail 0x80 0xBF (omega arith) (omega arith) q (a_tail 0x80 0xBF (omega arith) (omega arith) o no_tail)))
shape (right (right (right (right (right (octet x e ⨾ octet y p ⨾ octet z q ⨾ octet w o)))))) =
    a_lead 0xF4 0xF4 (omega arith) e (a_tail 0x80 0x8F (omega arith) (omega arith) p
    (a_tail 0x80 0xBF (omega arith) (omega arith) q (a_tail 0x80 0xBF (omega arith) (omega arith) o no_tail)))

pub fresh_as : {s t : List ℕ} → s ≡ t → Fresh s → Fresh t
fresh_as e f = rw e at f

shape_fresh : {a : List ℕ} → Shape a → (b : List ℕ) → Fresh (a ++ b)
shape_fresh (single h) b = at_low h
shape_fresh (several h t) b = at_high h

-- a well-formed text begins with no UTF8-tail
pub octets_fresh : {s : List ℕ} → Utf8Octets s → Fresh s
octets_fresh none = at_end
octets_fresh (more {b = b} c o) = shape_fresh (shape c) b

-- Cutting. Equations between texts by their first octets.
same_first : {x y : ℕ} {s t : List ℕ} → x ∷ s ≡ y ∷ t → x ≡ y
same_first e = cc

same_later : {x y : ℕ} {s t : List ℕ} → x ∷ s ≡ y ∷ t → s ≡ t
same_later e = cc

-- where UTF8-tail are at the head, a cut comes after them
record Behind (c b p q : List ℕ) : Type 0 where
  between : List ℕ
  before : p ≡ c ++ between
  after : b ≡ between ++ q

not_tail : {x : ℕ} {s q : List ℕ} → 0x80 ≤ x → x ≤ 0xBF → Fresh q → q ≡ x ∷ s → ⊥
not_tail l h at_end e = let z : ◌≡◌ {A = ℕ} 0 1 = cc in omega arith
not_tail {x} l h (at_low {x = y} k) e = let q : y ≡ x = same_first e in omega arith
not_tail {x} l h (at_high {x = y} k) e = let q : y ≡ x = same_first e in omega arith

behind : {c : List ℕ} → Tails c → (b p q : List ℕ) → Fresh q → c ++ b ≡ p ++ q → Behind c b p q
behind no_tail b p q f e = record { between = p; before = refl; after = e }
behind (tail l h t) b [] q f e = absurd (not_tail l h f (sym e))
behind (tail l h t) b (z ∷ p) q f e =
    let w = behind t b p q f (same_later e) in
    record { between = w.between; before = cons_same (sym (same_first e)) w.before; after = w.after }

past_char : {a : List ℕ} → Shape a → (b : List ℕ) (y : ℕ) (p q : List ℕ) → Fresh q → a ++ b ≡ y ∷ (p ++ q) → Behind a b (y ∷ p) q
past_char (single h) b y p q f e = record { between = p; before = cons_same (sym (same_first e)) refl; after = same_later e }
past_char (several h t) b y p q f e =
    let w = behind t b p q f (same_later e) in
    record { between = w.between; before = cons_same (sym (same_first e)) w.before; after = w.after }

cut : {t : List ℕ} → Utf8Octets t → (p q : List ℕ) → Fresh q → t ≡ p ++ q → Utf8Octets p × Utf8Octets q
cut none [] q f e = (none, octets_as e none)
cut none (y ∷ p) q f e = absurd (let z : ◌≡◌ {A = ℕ} 0 1 = cc in omega arith)
cut (more c o) [] q f e = (none, octets_as e (more c o))
cut (more {b = b} c o) (y ∷ p) q f e =
    let w = past_char (shape c) b y p q f e in
    let (s, t) = cut o w.between q f w.after in
    (octets_as (sym w.before) (more c s), t)

-- what stands before such a place, and what stands behind it
pub cut_octets : (p q : List ℕ) → Fresh q → Utf8Octets (p ++ q) → Utf8Octets p × Utf8Octets q
cut_octets p q f o = cut o p q f refl

module _ {s : List ℕ} (o : Utf8Octets s) where
  module _ (i : ℕ) (f : Fresh (drop i s)) where
    both_octets : Utf8Octets (take i s) × Utf8Octets (drop i s)
    both_octets = cut o (take i s) (drop i s) f (sym (take-append-drop i s))

    -- a well-formed text up to such a place, and from there on
    pub take_octets : Utf8Octets (take i s)
    take_octets = both_octets.0

    pub drop_octets : Utf8Octets (drop i s)
    drop_octets = both_octets.1

  -- between two such places
  pub part_octets : (i j : ℕ) → i ≤ j → Fresh (drop i s) → Fresh (drop j s) → Utf8Octets (between s i j)
  part_octets i j h f g =
      let there : i + (j - i) ≡ j = omega arith in
      let k : Fresh (drop (j - i) (drop i s)) = fresh_as (sym (drop-drop (j - i) i s ∙ ap (λ n. drop n s) there)) g in
      (cut (drop_octets i f) (take (j - i) (drop i s)) (drop (j - i) (drop i s)) k (sym (take-append-drop (j - i) (drop i s)))).0

-- the rest of a well-formed text after a sequence that is read at its head
check_any : (at k : ℕ) (ps : List Sequence) → check_from at ps ≡ Ok tt → check_from k ps ≡ Ok tt
unfolding check_from
check_any at k [] e = refl
check_any at k (End ∷ ps) e = refl
check_any at k (Good d m ∷ ps) e = check_any (at + m) (k + m) ps e
check_any at k (Bad m ∷ ps) e = absurd (let z : ◌≡◌ {A = ℕ} 0 1 = cc in omega arith)

pub good_rest : (l : List ℕ) {d m : ℕ} → sequence_of l ≡ Good d m → Utf8Octets l → Utf8Octets (drop m l)
unfolding check_from
good_rest l {d} {m} e o =
    let whole : check_of l ≡ (Ok tt) = (valid_iff l).1 o in
    let rest : check_from (0 + m) (pieces (drop m l)) ≡ (Ok tt) = rw (pieces_good l e) at whole in
    (valid_iff (drop m l)).0 (check_any (0 + m) 0 (pieces (drop m l)) rest)

-- Such places: the end,
pub fresh_end : (s : List ℕ) (i : ℕ) → length s ≤ i → Fresh (drop i s)
fresh_end s i h = fresh_as (sym (drop_of_length-le s h)) at_end

-- every ASCII octet
fresh_head : (s : List ℕ) → get_or s 0 0 < 0x80 → Fresh s
fresh_head [] h = at_end
fresh_head (x ∷ s) h = at_low h

pub fresh_ascii : (s : List ℕ) (i : ℕ) → get_or s i 0 < 0x80 → Fresh (drop i s)
fresh_ascii s i h = fresh_head (drop i s) (rw (get_or-drop i s 0 0, add-zero i) h)

-- the place behind it,
past_ascii : {t : List ℕ} → Utf8Octets t → (x : ℕ) (s : List ℕ) → x < 0x80 → t ≡ x ∷ s → Utf8Octets s
past_ascii none x s h e = absurd (let z : ◌≡◌ {A = ℕ} 0 1 = cc in omega arith)
past_ascii (more c o) x s h e = by_shape (shape c) e o
  where
    by_shape : {a b : List ℕ} → Shape a → a ++ b ≡ x ∷ s → Utf8Octets b → Utf8Octets s
    by_shape (single k) q w = octets_as (same_later q) w
    by_shape (several {x = y} k t) q w = absurd (let z : y ≡ x = same_first q in omega arith)

-- a well-formed text without an ASCII octet at its head
pub tail_octets : (x : ℕ) (s : List ℕ) → x < 0x80 → Utf8Octets (x ∷ s) → Utf8Octets s
tail_octets x s h o = past_ascii o x s h refl

-- every place at which a sequence is read,
pub fresh_good : (l : List ℕ) {d m : ℕ} → sequence_of l ≡ Good d m → Fresh l
fresh_good l {d} {m} e = fresh_as (take-append-drop m l) (shape_fresh (shape (good_is_char l e)) (drop m l))

module _ {s : List ℕ} (o : Utf8Octets s) (i : ℕ) where
  module _ (h : i < length s) (l : get_or s i 0 < 0x80) where
    pub after_octets : Utf8Octets (drop (i + 1) s)
    after_octets =
        octets_as (ap (λ n. drop n s) (sym (add-one i)))
        (tail_octets (get_or s i 0) (drop (suc i) s) l (octets_as (drop-cons s i 0 h) (drop_octets o i (fresh_ascii s i l))))

    pub fresh_after : Fresh (drop (i + 1) s)
    fresh_after = octets_fresh after_octets

-- Octets turned one by one, where only ASCII octets change, and into such.
module _ (f : ℕ → ℕ) (low : (x : ℕ) → x < 0x80 → f x < 0x80) (high : (x : ℕ) → 0x80 ≤ x → f x ≡ x) where
  tails_kept : {s : List ℕ} → Tails s → map f s ≡ s
  tails_kept no_tail = refl
  tails_kept (tail {x} l h t) = cons_same (high x l) (tails_kept t)

  shape_turned : {a : List ℕ} → Shape a → Utf8Char a → Utf8Octets (map f a)
  shape_turned (single {x} h) c = ascii_octets (f x) (low x h)
  shape_turned (several {x} h t) c = octets_as (sym (cons_same (high x (omega arith)) (tails_kept t))) (char_octets c)

  pub map_octets : {s : List ℕ} → Utf8Octets s → Utf8Octets (map f s)
  map_octets none = none
  map_octets (more {a = a} {b = b} c o) = octets_as (sym (map-append f a b)) (append_octets (shape_turned (shape c) c) (map_octets o))
