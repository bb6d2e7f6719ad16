-- Four values written one after the other. Assumes nothing.
use mathlib.Core.Path.{◌≡◌, sym, ◌∙◌, ap}
use mathlib.Core.List.{List, [], ◌∷◌}
use Prim.Native.Nat.{ℕ, ◌+◌, ◌≤◌, ◌<◌}
use native.Mathlib.Omega.{arith}
use lib.ListN.{length, set, length-set}
use Rattle.ground.specs.Put.{put}
use Rattle.ground.proofs.PutLaws.{put_one, put_set}

module _ (d : List ℕ) (at : ℕ) (h : at + 4 ≤ length d) (w x y z : ℕ) where
  abbrev one : List ℕ
  one = set d at w

  abbrev two : List ℕ
  two = set one (at + 1) x

  abbrev three : List ℕ
  three = set two (at + 2) y

  pub second_inside : at + 1 < length one
  second_inside = omega (arith, length-set d at w)

  pub third_inside : at + 2 < length two
  third_inside = omega (arith, length-set d at w, length-set one (at + 1) x)

  pub fourth_inside : at + 3 < length three
  fourth_inside = omega (arith, length-set d at w, length-set one (at + 1) x, length-set two (at + 2) y)

  pub four_put : set three (at + 3) z ≡ put d at (w ∷ x ∷ y ∷ z ∷ [])
  four_put =
      let a : one ≡ put d at (w ∷ []) = sym (put_one d at w (omega arith)) in
      let b : two ≡ put d at (w ∷ x ∷ []) = ap (λ l. set l (at + 1) x) a ∙ put_set d at (w ∷ []) x (omega arith) in
      let c : three ≡ put d at (w ∷ x ∷ y ∷ []) = ap (λ l. set l (at + 2) y) b ∙ put_set d at (w ∷ x ∷ []) y (omega arith) in
      ap (λ l. set l (at + 3) z) c ∙ put_set d at (w ∷ x ∷ y ∷ []) z (omega arith)
