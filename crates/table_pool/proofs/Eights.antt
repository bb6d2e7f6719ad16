-- Texts written eight bytes at a time. Assumes nothing.
use mathlib.Core.Path.{◌≡◌, refl, sym, ◌∙◌, ap}
use mathlib.Core.List.{List, [], ◌∷◌, ◌++◌}
use Prim.Native.Nat.{ℕ, zero, suc, ◌+◌, ◌-◌, ◌^◌, ◌≤◌, ◌<◌}
use native.Mathlib.Nat.{add-suc}
use native.Mathlib.Numerals.{add-one}
use native.Mathlib.Omega.{arith}
use lib.ListN.{length, get_or, take, drop, length-drop}
use lib.Seq.{take-add, drop-cons, length-take-le, take-length}
use mir.Val.{Fits}
use mir.Syntax.{w64}
use borrow.Author.Rules.{rules}
use Rattle.ground.specs.Put.{put}
use Rattle.ground.proofs.PutLaws.{put_nothing, put_put, put_over, length_put}
use Rattle.ground.proofs.Fours.{second_inside, third_inside, fourth_inside, four_put}

-- Eight bytes that stand one after the other.
abbrev values : List ℕ → ℕ → ℕ → ℕ → List ℕ
values s k i zero = []
values s k i (suc n) = get_or s (k + i) 0 ∷ values s k (suc i) n

listed : (s : List ℕ) (k i n : ℕ) → k + i + n ≤ length s → take n (drop (k + i) s) ≡ values s k i n
listed s k i zero h = refl
listed s k i (suc n) h =
    ap (take (suc n)) (drop-cons s (k + i) 0 (omega arith))
    ∙ ap (λ l. get_or s (k + i) 0 ∷ l) (ap (λ p. take n (drop p s)) (sym (add-suc k i)) ∙ listed s k (suc i) n (omega arith))

eight_of : (s : List ℕ) (k : ℕ) → k + 8 ≤ length s → take 8 (drop k s) ≡ get_or s k 0 ∷ values s k 1 7
eight_of s k h =
    ap (take 8) (drop-cons s k 0 (omega arith))
    ∙ ap (λ l. get_or s k 0 ∷ l) (ap (λ p. take 7 (drop p s)) (sym (add-one k)) ∙ listed s k 1 7 (omega arith))

pub ruleset fours = (second_inside, third_inside, fourth_inside, four_put, rules)

module _ (d s : List ℕ) (at k : ℕ) (h : at + 8 ≤ length d) (i : k + 8 ≤ length s) {room : List ℕ}
    (e : room ≡ put d at (get_or s k 0 ∷ get_or s (k + 1) 0 ∷ get_or s (k + 2) 0 ∷ get_or s (k + 3) 0 ∷ [])) where
  pub half_size : at + 4 + 4 ≤ length room
  half_size = rw (e, length_put d at (get_or s k 0 ∷ get_or s (k + 1) 0 ∷ get_or s (k + 2) 0 ∷ get_or s (k + 3) 0 ∷ []) (omega arith)) (omega arith)

  pub eight_put : {after : List ℕ} → after ≡ put room (at + 4) (get_or s (k + 4) 0 ∷ get_or s (k + 5) 0 ∷ get_or s (k + 6) 0 ∷ get_or s (k + 7) 0 ∷ []) → after ≡ put d at (take 8 (drop k s))
  eight_put f =
      f ∙ ap (λ l. put l (at + 4) (get_or s (k + 4) 0 ∷ get_or s (k + 5) 0 ∷ get_or s (k + 6) 0 ∷ get_or s (k + 7) 0 ∷ [])) e
      ∙ put_put d at (get_or s k 0 ∷ get_or s (k + 1) 0 ∷ get_or s (k + 2) 0 ∷ get_or s (k + 3) 0 ∷ []) (get_or s (k + 4) 0 ∷ get_or s (k + 5) 0 ∷ get_or s (k + 6) 0 ∷ get_or s (k + 7) 0 ∷ []) (omega arith)
      ∙ ap (put d at) (sym (eight_of s k i))

pub ruleset eight_bytes = (half_size, eight_put, rules)

-- The first `k` bytes of a text are written, and no byte behind it.
pub record Begun (d : List ℕ) (at : ℕ) (text room : List ℕ) (k : ℕ) : Type 0 where
  pub some : k ≤ length text
  pub is : room ≡ put d at (take k text)
  pub size : length room ≡ length d

-- so many bytes, from one on that is at or before the next
over : (d : List ℕ) (at : ℕ) (text : List ℕ) (j k n : ℕ) → at + length text ≤ length d → j ≤ k → k ≤ j + n → j + n ≤ length text →
    put (put d at (take k text)) (at + j) (take n (drop j text)) ≡ put d at (take (j + n) text)
over d at text j k n h p q r =
    let first : length (take j text) ≡ j = length-take-le j text (omega arith) in
    let m : ℕ = k - j in
    let parts : k ≡ j + m = omega arith in
    let split : take k text ≡ take j text ++ take m (drop j text) = ap (λ x. take x text) parts ∙ take-add j m text in
    let written : put d at (take k text) ≡ put (put d at (take j text)) (at + j) (take m (drop j text)) =
    ap (put d at) split ∙ sym (put_put d at (take j text) (take m (drop j text)) (omega arith)) ∙ ap (λ x. put (put d at (take j text)) (at + x) (take m (drop j text))) first in
    let rest : length (drop j text) ≡ length text - j = length-drop j text in
    let few : length (take m (drop j text)) ≡ m = length-take-le m (drop j text) (omega arith) in
    let many : length (take n (drop j text)) ≡ n = length-take-le n (drop j text) (omega arith) in
    let same : length (put d at (take j text)) ≡ length d = length_put d at (take j text) (omega arith) in
    ap (λ l. put l (at + j) (take n (drop j text))) written
    ∙ put_over (put d at (take j text)) (at + j) (take m (drop j text)) (take n (drop j text)) (omega arith) (omega arith)
    ∙ ap (λ x. put (put d at (take j text)) (at + x) (take n (drop j text))) (sym first)
    ∙ put_put d at (take j text) (take n (drop j text)) (omega arith)
    ∙ ap (put d at) (sym (take-add j n text))

module _ (d : List ℕ) (at : ℕ) (text : List ℕ) (n : 8 ≤ length text) (i : at + length text ≤ length d) where
  pub begun_none : Begun d at text d 0
  begun_none = record { some = omega arith; is = sym (put_nothing d at); size = refl }

  module _ {room : List ℕ} {k : ℕ} (w : Begun d at text room k) where
    pub begun_inside : k < length text - 8 → at + k + 8 ≤ length room
    begun_inside l = omega (arith, w.size)

    pub begun_last : at + (length text - 8) + 8 ≤ length room
    begun_last = omega (arith, w.size)

    pub begun_fits : length d < 2 ^ 64 → Fits w64 (at + k)
    begun_fits z = omega (arith, w.some)

    pub begun_more : k < length text - 8 → {after : List ℕ} → after ≡ put room (at + k) (take 8 (drop k text)) → Begun d at text after (k + 8)
    begun_more l {after} e =
        let is : after ≡ put d at (take (k + 8) text) = e ∙ ap (λ r. put r (at + k) (take 8 (drop k text))) w.is ∙ over d at text k k 8 i (omega arith) (omega arith) (omega arith) in
        record { some = omega arith; is = is; size = ap length is ∙ length_put d at (take (k + 8) text) (omega (arith, length-take-le (k + 8) text (omega arith))) }

    pub begun_done : length text - 8 ≤ k → {after : List ℕ} → after ≡ put room (at + (length text - 8)) (take 8 (drop (length text - 8) text)) → after ≡ put d at text
    begun_done l e =
        let whole : length text - 8 + 8 ≡ length text = omega arith in
        e ∙ ap (λ r. put r (at + (length text - 8)) (take 8 (drop (length text - 8) text))) w.is
        ∙ over d at text (length text - 8) k 8 i (omega arith) (omega (arith, w.some)) (omega arith)
        ∙ ap (λ x. put d at (take x text)) whole ∙ ap (put d at) (take-length text)

pub ruleset eights = (begun_none, begun_inside, begun_last, begun_fits, begun_more, begun_done, rules)
