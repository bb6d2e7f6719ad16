-- The octets of a code point above 7F, one by one. Assumes nothing.
use mathlib.Core.Path.{◌≡◌, refl, sym, ◌∙◌, ap}
use mathlib.Core.Bool.{true, false}
use mathlib.Core.List.{List, ◌∷◌}
use Prim.Native.Nat.{ℕ, suc, ◌+◌, ◌-◌, ◌/◌, ◌%◌, ◌≤◌, ◌<◌}
use native.Mathlib.Nat.{add-zero}
use native.Mathlib.Numerals.{add-one}
use native.Mathlib.Omega.{arith}
use lib.ListN.{length, get_or, drop, set, length-set, drop_of_length-le}
use lib.Seq.{drop-cons, paste, paste-zero, paste-suc}
use borrow.Author.Tests.{eq-eqb, ne_eqb}
use borrow.Author.Rules.{rules}
use Rattle.ground.specs.Put.{put}
use Rattle.ground.proofs.PutLaws.{paste_put}
use Rattle.json_grammar.specs.Encode.{utf8}
use Rattle.json_grammar.proofs.EncodeLaws.{utf8_two, utf8_three, utf8_four}
use Rattle.json_decode.specs.Inner.Octets.{heads}

-- an element by its number
octet_at : (c k n : ℕ) {l : List ℕ} → utf8 c ≡ l → k ≡ n → get_or l n 0 ≡ get_or (utf8 c) k 0
octet_at c k n e f = rw (e, f)

below : (c k : ℕ) {l : List ℕ} → utf8 c ≡ l → k < length (utf8 c) → k < length l
below c k e h = rw e at h

module _ (c k : ℕ) (i : k < length (utf8 c)) where
  module _ (l : 0x80 ≤ c) (h : c < 0x800) where
    pub two_first : k ≡ 0 → 0xC0 + c / 64 ≡ get_or (utf8 c) k 0
    two_first e = octet_at c k 0 (utf8_two c l h) e

    pub two_last : (k ≡ 0 → ⊥) → 0x80 + c % 64 ≡ get_or (utf8 c) k 0
    two_last n = octet_at c k 1 (utf8_two c l h) (let j = below c k (utf8_two c l h) i in omega arith)

  module _ (l : 0x800 ≤ c) (h : c < 0x10000) where
    pub three_first : k ≡ 0 → 0xE0 + c / 4096 ≡ get_or (utf8 c) k 0
    three_first e = octet_at c k 0 (utf8_three c l h) e

    pub three_second : k ≡ 1 → 0x80 + c / 64 % 64 ≡ get_or (utf8 c) k 0
    three_second e = octet_at c k 1 (utf8_three c l h) e

    pub three_last : (k ≡ 0 → ⊥) → (k ≡ 1 → ⊥) → 0x80 + c % 64 ≡ get_or (utf8 c) k 0
    three_last n m = octet_at c k 2 (utf8_three c l h) (let j = below c k (utf8_three c l h) i in omega arith)

  module _ (l : 0x10000 ≤ c) where
    pub four_first : k ≡ 0 → 0xF0 + c / 262144 ≡ get_or (utf8 c) k 0
    four_first e = octet_at c k 0 (utf8_four c l) e

    pub four_second : k ≡ 1 → 0x80 + c / 4096 % 64 ≡ get_or (utf8 c) k 0
    four_second e = octet_at c k 1 (utf8_four c l) e

    pub four_third : k ≡ 2 → 0x80 + c / 64 % 64 ≡ get_or (utf8 c) k 0
    four_third e = octet_at c k 2 (utf8_four c l) e

    pub four_last : (k ≡ 0 → ⊥) → (k ≡ 1 → ⊥) → (k ≡ 2 → ⊥) → 0x80 + c % 64 ≡ get_or (utf8 c) k 0
    four_last n m o = octet_at c k 3 (utf8_four c l) (let j = below c k (utf8_four c l) i in omega arith)

pub ruleset octets = (two_first, two_last, three_first, three_second, three_last, four_first, four_second, four_third, four_last, rules)

-- Octets at a place of a text: what is left of them decides.
pub record Heading (text : List ℕ) (at c k : ℕ) : Type 0 where
  pub some : k ≤ length (utf8 c)
  pub inside : at + k ≤ length text
  pub decides : heads (utf8 c) (drop at text) ≡ heads (drop k (utf8 c)) (drop (at + k) text)

pub heading_starts : (text : List ℕ) (at c : ℕ) → at ≤ length text → Heading text at c 0
heading_starts text at c h = record { some = omega arith; inside = omega arith; decides = rw (add-zero at) }

pub octet_there : (c k : ℕ) {n : ℕ} → n ≡ length (utf8 c) → k < n → k < length (utf8 c)
octet_there c k e h = rw (← e) h

module _ {text : List ℕ} {at c k n : ℕ} (e : n ≡ length (utf8 c)) (w : Heading text at c k) where
  pub heading_read : n ≤ k → true ≡ heads (utf8 c) (drop at text)
  unfolding heads
  heading_read h = let i : length (utf8 c) ≤ k = rw (← e) h in sym (w.decides ∙ rw (drop_of_length-le (utf8 c) i))

  module _ (h : k < n) where
    next : drop k (utf8 c) ≡ get_or (utf8 c) k 0 ∷ drop (k + 1) (utf8 c)
    next = rw add-one (drop-cons (utf8 c) k 0 (rw (← e) h))

    pub heading_cut : length text - at ≤ k → false ≡ heads (utf8 c) (drop at text)
    unfolding heads
    heading_cut l =
        let past : length text ≤ at + k = let p = w.inside in omega arith in
        sym (w.decides ∙ rw (next, drop_of_length-le text past))

    module _ (l : k < length text - at) {o : ℕ} (f : o ≡ get_or (utf8 c) k 0) where
      here : drop (at + k) text ≡ get_or text (at + k) 0 ∷ drop (at + (k + 1)) text
      here = let g : suc (at + k) ≡ at + (k + 1) = omega arith in rw (drop-cons text (at + k) 0 (omega arith), g)

      pub heading_other : (get_or text (at + k) 0 ≡ o → ⊥) → false ≡ heads (utf8 c) (drop at text)
      unfolding heads
      heading_other n = sym (w.decides ∙ rw (next, here, ne_eqb (get_or (utf8 c) k 0) (get_or text (at + k) 0) (λ g. n (sym g ∙ sym f))))

      pub heading_more : get_or text (at + k) 0 ≡ o → Heading text at c (k + 1)
      unfolding heads
      heading_more g = record {
        some = let d : k < length (utf8 c) = rw (← e) h in omega arith;
        inside = omega arith;
        decides = w.decides ∙ rw (next, here, eq-eqb (get_or (utf8 c) k 0) (get_or text (at + k) 0) (sym f ∙ sym g));
      }

pub ruleset heading = (heading_starts, octet_there, heading_read, heading_cut, heading_other, heading_more, rules)

-- Octets written one after the other.
pub record Putting (d : List ℕ) (at c : ℕ) (room : List ℕ) (k : ℕ) : Type 0 where
  pub some : k ≤ length (utf8 c)
  pub is : room ≡ paste d at (utf8 c) k
  pub size : length room ≡ length d

module _ (d : List ℕ) (at c : ℕ) (i : at + length (utf8 c) ≤ length d) where
  pub putting_starts : Putting d at c d 0
  putting_starts = record { some = omega arith; is = paste-zero d at (utf8 c); size = refl }

  module _ {n : ℕ} (e : n ≡ length (utf8 c)) {room : List ℕ} {k : ℕ} (w : Putting d at c room k) where
    pub putting_done : n ≤ k → room ≡ put d at (utf8 c)
    putting_done h = let f : k ≡ length (utf8 c) = let s = w.some in omega arith in w.is ∙ ap (paste d at (utf8 c)) f ∙ paste_put d at (utf8 c)

    module _ (h : k < n) where
      pub putting_inside : at + k < length room
      putting_inside = omega (arith, w.size)

      pub putting_more : {o : ℕ} → o ≡ get_or (utf8 c) k 0 → Putting d at c (set room (at + k) o) (k + 1)
      putting_more {o} f = record {
        some = omega arith;
        is = rw (w.is, f, add-one) (paste-suc d at (utf8 c) k 0 (omega arith) (omega arith));
        size = length-set room (at + k) o ∙ w.size;
      }

pub ruleset putting = (putting_starts, octet_there, putting_done, putting_inside, putting_more, rules)
