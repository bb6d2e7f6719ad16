-- What stands where, after bytes were put at a place. Assumes nothing.
use mathlib.Core.Path.{◌≡◌, sym, ◌∙◌, ap}
use mathlib.Core.List.{List, ◌++◌, append_assoc}
use Prim.Native.Nat.{ℕ, ◌+◌, ◌-◌, ◌≤◌, ◌<◌}
use native.Mathlib.Omega.{arith}
use lib.ListN.{length, take, drop, length-append}
use lib.Seq.{length-take-le, take-append-le, drop-append-le, drop-append-add, take_at, drop_at, take-take, drop-drop, get_or-take}
use Rattle.ground.specs.Put.{put, between}
use Rattle.ground.proofs.Parts.{drop_take}
use Rattle.tree_rule.specs.Words.{word_at, word_bytes}
use Rattle.tree_rule.proofs.WordLaws.{word_here, word_written}

module _ {A : Type 0} (d : List A) (at : ℕ) (s : List A) (fits : at + length s ≤ length d) where
  front : length (take at d) ≡ at
  front = length-take-le at d (omega arith)

  whole : length (take at d ++ s) ≡ at + length s
  whole = length-append (take at d) s ∙ ap (λ n. n + length s) front

  -- what stands before
  pub take_put : (e : ℕ) → e ≤ at → take e (put d at s) ≡ take e d
  unfolding put
  take_put e h = take-append-le e (take at d) (s ++ drop (at + length s) d) (omega (arith, front)) ∙ take-take e at d h

  -- what stands behind
  pub drop_put : (a : ℕ) → at + length s ≤ a → drop a (put d at s) ≡ drop a d
  unfolding put
  drop_put a h =
      let past : at + length s + (a - (at + length s)) ≡ a = omega arith in
      let long : length (take at d ++ s) + (a - (at + length s)) ≡ a = omega (arith, whole) in
      ap (drop a) (sym (append_assoc (take at d) s (drop (at + length s) d)))
      ∙ ap (λ n. drop n ((take at d ++ s) ++ drop (at + length s) d)) (sym long)
      ∙ drop-append-add (take at d ++ s) (drop (at + length s) d) (a - (at + length s))
      ∙ drop-drop (a - (at + length s)) (at + length s) d
      ∙ ap (λ n. drop n d) past

  -- and what was put
  pub here_put : drop at (put d at s) ≡ s ++ drop (at + length s) d
  unfolding put
  here_put = drop_at (take at d) (s ++ drop (at + length s) d) at front

  up_to : take (at + length s) (put d at s) ≡ take at d ++ s
  unfolding put
  up_to =
      ap (take (at + length s)) (sym (append_assoc (take at d) s (drop (at + length s) d)))
      ∙ take_at (take at d ++ s) (drop (at + length s) d) (at + length s) whole

  pub part_before : (a e : ℕ) → e ≤ at → between (put d at s) a e ≡ between d a e
  part_before a e h = sym (drop_take a e (put d at s)) ∙ ap (drop a) (take_put e h) ∙ drop_take a e d

  pub part_after : (a e : ℕ) → at + length s ≤ a → between (put d at s) a e ≡ between d a e
  part_after a e h = ap (take (e - a)) (drop_put a h)

  -- a part that ended there goes on
  pub part_more : (a : ℕ) → a ≤ at → between (put d at s) a (at + length s) ≡ between d a at ++ s
  part_more a h =
      sym (drop_take a (at + length s) (put d at s))
      ∙ ap (drop a) up_to
      ∙ drop-append-le a (take at d) s (omega (arith, front))
      ∙ ap (λ l. l ++ s) (drop_take a at d)

pub word_take : (s : List ℕ) (e p : ℕ) → p + 4 ≤ e → word_at (take e s) p ≡ word_at s p
unfolding word_at
word_take s e p h =
    rw (
      get_or-take e s p 0 (omega arith),
      get_or-take e s (p + 1) 0 (omega arith),
      get_or-take e s (p + 2) 0 (omega arith),
      get_or-take e s (p + 3) 0 (omega arith),
    )

-- Numbers.
module _ (d : List ℕ) (at : ℕ) (s : List ℕ) (fits : at + length s ≤ length d) where
  pub word_before : (p : ℕ) → p + 4 ≤ at → word_at (put d at s) p ≡ word_at d p
  word_before p h =
      sym (word_take (put d at s) at p h) ∙ ap (λ l. word_at l p) (take_put d at s fits at (omega arith)) ∙ word_take d at p h

  pub word_after : (p : ℕ) → at + length s ≤ p → word_at (put d at s) p ≡ word_at d p
  word_after p h = sym (word_here (put d at s) p) ∙ ap (λ l. word_at l 0) (drop_put d at s fits p h) ∙ word_here d p

pub word_put : (d : List ℕ) (at x : ℕ) → x < 4294967296 → at + length (word_bytes x) ≤ length d → word_at (put d at (word_bytes x)) at ≡ x
word_put d at x h fits = word_written (put d at (word_bytes x)) at x (drop (at + length (word_bytes x)) d) h (here_put d at (word_bytes x) fits)
