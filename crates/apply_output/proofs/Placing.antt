-- Two texts put into a list: one behind, and one before it. Assumes nothing.
use mathlib.Core.Path.{◌≡◌, ◌∙◌, ap}
use mathlib.Core.List.{List, ◌++◌}
use Prim.Native.Nat.{ℕ, ◌+◌, ◌≤◌}
use native.Mathlib.Omega.{arith}
use lib.ListN.{length, take, drop}
use Rattle.ground.specs.Put.{put, between}
use Rattle.ground.proofs.PutLaws.{length_put}
use Rattle.tree_rule.specs.Words.{word_at}
use Rattle.tree_rule.proofs.PutWords.{take_put, drop_put, part_before, part_after, part_more, word_before, word_after}

module _
    (d : List ℕ) (e : ℕ) (y : List ℕ) (r : ℕ) (z : List ℕ)
    (fr : r + length z ≤ e) (fe : e + length y ≤ length d) where
  abbrev one : List ℕ
  one = put d e y

  abbrev pub two : List ℕ
  two = put one r z

  one_size : length one ≡ length d
  one_size = length_put d e y fe

  fits_two : r + length z ≤ length one
  fits_two = omega (arith, one_size)

  pub two_size : length two ≡ length d
  two_size = length_put one r z fits_two ∙ one_size

  -- each goes on where it is put
  pub two_front : («from» : ℕ) → «from» ≤ r → between two «from» (r + length z) ≡ between d «from» r ++ z
  two_front «from» h =
      part_more one r z fits_two «from» h ∙ ap (λ s. s ++ z) (part_before d e y fe «from» r (omega arith))

  pub two_back : («from» : ℕ) → r + length z ≤ «from» → «from» ≤ e → between two «from» (e + length y) ≡ between d «from» e ++ y
  two_back «from» l h =
      part_after one r z fits_two «from» (e + length y) l ∙ part_more d e y fe «from» h

  -- and nothing else is touched
  pub two_before : (n : ℕ) → n ≤ r → take n two ≡ take n d
  two_before n h = take_put one r z fits_two n h ∙ take_put d e y fe n (omega arith)

  pub two_word : (p : ℕ) → r + length z ≤ p → p + 4 ≤ e → word_at two p ≡ word_at d p
  two_word p l h = word_after one r z fits_two p l ∙ word_before d e y fe p h

  pub two_behind : drop (e + length y) two ≡ drop (e + length y) d
  two_behind =
      drop_put one r z fits_two (e + length y) (omega arith) ∙ drop_put d e y fe (e + length y) (omega arith)
