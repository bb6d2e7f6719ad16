-- Literal names, and values that nest nothing, by places. Assumes nothing.
use Rattle.std.specs.Prelude.{Option, Some, None}
use mathlib.Core.Path.{◌≡◌, ◌∙◌}
use mathlib.Core.List.{List, [], ◌∷◌}
use Prim.Native.Nat.{ℕ, suc, ◌+◌, ◌-◌, ◌≤◌, ◌<◌}
use native.Mathlib.Nat.{add-zero}
use native.Mathlib.Numerals.{add-one}
use native.Mathlib.Omega.{arith}
use lib.ListN.{length, get_or, drop, drop_of_length-le}
use lib.Seq.{drop-cons}
use borrow.Author.Tests.{eq-eqb, ne_eqb}
use borrow.Author.Rules.{rules}
use Rattle.ground.specs.Ascii.{ascii}
use Rattle.ground.proofs.Parts.{drop_here}
use Rattle.json_grammar.specs.Grammar.{text, other}
use Rattle.json_grammar.specs.Reader.{Out, got, bad, and_then, chars_from, string_of, past_word, as_text, as_other, flat_of, json_number}
use Rattle.json_string.specs.Inner.Means.{Reached, Means}
use Rattle.json_values.proofs.Numbers.{means_as}

-- A literal name: what is left of it decides.
pub record Wording (s : List ℕ) (at : ℕ) (word : List ℕ) (i : ℕ) : Type 0 where
  pub some : i ≤ length word
  pub inside : at + i ≤ length s
  pub decides : past_word word (drop at s) ≡ past_word (drop i word) (drop (at + i) s)

pub word_starts : (s : List ℕ) (at : ℕ) (word : List ℕ) → at ≤ length s → Wording s at word 0
word_starts s at word h = record { some = omega arith; inside = omega arith; decides = rw (add-zero at) }

module _ {s : List ℕ} {at : ℕ} {word : List ℕ} {i : ℕ} (k : Wording s at word i) where
  pub word_read : length word ≤ i → Reached s (at + i) (past_word word (drop at s))
  unfolding past_word
  word_read h = record { inside = k.inside; value = other; reads = k.decides ∙ rw (drop_of_length-le word h) }

  module _ (h : i < length word) where
    next : drop i word ≡ get_or word i 0 ∷ drop (i + 1) word
    next = rw add-one (drop-cons word i 0 h)

    pub word_cut : length s - at ≤ i → past_word word (drop at s) ≡ bad
    unfolding past_word
    word_cut e =
        let past : length s ≤ at + i = let p = k.inside in omega arith in
        k.decides ∙ rw (next, drop_of_length-le s past)

    module _ (l : i < length s - at) where
      here : drop (at + i) s ≡ get_or s (at + i) 0 ∷ drop (at + (i + 1)) s
      here = let e : suc (at + i) ≡ at + (i + 1) = omega arith in rw (drop-cons s (at + i) 0 (omega arith), e)

      pub word_other : (get_or s (at + i) 0 ≡ get_or word i 0 → ⊥) → past_word word (drop at s) ≡ bad
      unfolding past_word
      word_other n = k.decides ∙ rw (next, here, ne_eqb (get_or s (at + i) 0) (get_or word i 0) n)

      pub word_more : get_or s (at + i) 0 ≡ get_or word i 0 → Wording s at word (i + 1)
      unfolding past_word
      word_more e = record {
        some = omega arith;
        inside = omega arith;
        decides = k.decides ∙ rw (next, here, eq-eqb (get_or s (at + i) 0) (get_or word i 0) e);
      }

pub ruleset wording = (word_starts, word_read, word_cut, word_other, word_more, rules)

-- What is read is given another meaning, at the same place.
pub means_map : {A B : Type 0} (s : List ℕ) (o : Out A) (f : A → B) (r : Option ℕ) → Means s r o → Means s r (and_then o (λ v q. got (f v) q))
unfolding and_then
means_map s o f (Some n) m = record { inside = m.inside; value = f m.value; reads = rw m.reads }
means_map s o f None m = rw m

pub flat_end : (s : List ℕ) (at : ℕ) → length s ≤ at → flat_of (drop at s) ≡ bad
unfolding flat_of
flat_end s at h = rw (drop_of_length-le s h)

module _ (s : List ℕ) (at : ℕ) (h : at < length s) where
  pub flat_string : get_or s at 0 ≡ 0x22 → (r : Option ℕ) → Means s r (chars_from 0 (drop (at + 1) s)) → Means s r (flat_of (drop at s))
  unfolding flat_of string_of
  flat_string e r m =
      means_as s (as_text (chars_from 0 (drop (at + 1) s))) (flat_of (drop at s)) r (rw (drop_here s at h, eq-eqb (get_or s at 0) 0x22 e))
      (means_map s (chars_from 0 (drop (at + 1) s)) text r m)

  module _ (n1 : get_or s at 0 ≡ 0x22 → ⊥) where
    pub flat_false : get_or s at 0 ≡ 0x66 → (r : Option ℕ) → Means s r (past_word (0x66 ∷ 0x61 ∷ 0x6C ∷ 0x73 ∷ 0x65 ∷ []) (drop at s)) → Means s r (flat_of (drop at s))
    unfolding flat_of ascii
    flat_false e r m =
        means_as s (past_word (0x66 ∷ 0x61 ∷ 0x6C ∷ 0x73 ∷ 0x65 ∷ []) (drop at s)) (flat_of (drop at s)) r
        (rw (drop_here s at h, ne_eqb (get_or s at 0) 0x22 n1, eq-eqb (get_or s at 0) 0x66 e)) m

    module _ (n2 : get_or s at 0 ≡ 0x66 → ⊥) where
      pub flat_null : get_or s at 0 ≡ 0x6E → (r : Option ℕ) → Means s r (past_word (0x6E ∷ 0x75 ∷ 0x6C ∷ 0x6C ∷ []) (drop at s)) → Means s r (flat_of (drop at s))
      unfolding flat_of ascii
      flat_null e r m =
          means_as s (past_word (0x6E ∷ 0x75 ∷ 0x6C ∷ 0x6C ∷ []) (drop at s)) (flat_of (drop at s)) r
          (rw (drop_here s at h, ne_eqb (get_or s at 0) 0x22 n1, ne_eqb (get_or s at 0) 0x66 n2, eq-eqb (get_or s at 0) 0x6E e)) m

      module _ (n3 : get_or s at 0 ≡ 0x6E → ⊥) where
        pub flat_true : get_or s at 0 ≡ 0x74 → (r : Option ℕ) → Means s r (past_word (0x74 ∷ 0x72 ∷ 0x75 ∷ 0x65 ∷ []) (drop at s)) → Means s r (flat_of (drop at s))
        unfolding flat_of ascii
        flat_true e r m =
            means_as s (past_word (0x74 ∷ 0x72 ∷ 0x75 ∷ 0x65 ∷ []) (drop at s)) (flat_of (drop at s)) r
            (rw (drop_here s at h, ne_eqb (get_or s at 0) 0x22 n1, ne_eqb (get_or s at 0) 0x66 n2, ne_eqb (get_or s at 0) 0x6E n3, eq-eqb (get_or s at 0) 0x74 e)) m

        pub flat_number : (get_or s at 0 ≡ 0x74 → ⊥) → (r : Option ℕ) → Means s r (json_number (drop at s)) → Means s r (flat_of (drop at s))
        unfolding flat_of
        flat_number n4 r m =
            means_as s (as_other (json_number (drop at s))) (flat_of (drop at s)) r
            (rw (drop_here s at h, ne_eqb (get_or s at 0) 0x22 n1, ne_eqb (get_or s at 0) 0x66 n2, ne_eqb (get_or s at 0) 0x6E n3, ne_eqb (get_or s at 0) 0x74 n4))
            (means_map s (json_number (drop at s)) (λ v. other) r m)

pub ruleset flats = (flat_end, flat_string, flat_false, flat_null, flat_true, flat_number, rules)
