-- Parts of a list, as the code lends them. Assumes nothing.
use mathlib.Core.Path.{◌≡◌, sym, ◌∙◌}
use mathlib.Core.List.{List, [], ◌∷◌, ◌++◌}
use Prim.Native.Nat.{ℕ, zero, suc, ◌+◌, ◌-◌, ◌≤◌, ◌<◌}
use native.Mathlib.Numerals.{add-one}
use native.Mathlib.Omega.{arith}
use lib.ListN.{length, get_or, take, drop, length-take, length-drop}
use lib.Seq.{take_all, take-nil, take-take, take-add, drop-cons, drop-drop, get_or-take, get_or-drop}
use Rattle.ground.specs.Put.{between}

module _ {A : Type 0} where
  -- `&s[a..]` is what is left of `s`
  pub take_rest : (s : List A) (a : ℕ) → between s a (length s) ≡ drop a s
  take_rest s a = take_all (length s - a) (drop a s) (rw length-drop (omega arith))

  -- `&s[..i]` has `i` elements
  pub prefix_whole : (s : List A) (i : ℕ) → i ≤ length s → i ≡ length (take i s)
  prefix_whole s i h = omega (arith, length-take i s)

  pub prefix_size : (s : List A) (i : ℕ) → i < length s → i ≡ length (take i s)
  prefix_size s i h = prefix_whole s i (omega arith)

  -- what is left of a part
  pub drop_take : (k n : ℕ) (l : List A) → drop k (take n l) ≡ take (n - k) (drop k l)
  drop_take zero n l = let z : n - 0 ≡ n = omega arith in rw z
  drop_take (suc k) zero l = let z : 0 - suc k ≡ 0 = omega arith in rw z
  drop_take (suc k) (suc n) [] = sym (take-nil (suc n - suc k))
  drop_take (suc k) (suc n) (x ∷ l) = let z : suc n - suc k ≡ n - k = omega arith in rw z (drop_take k n l)

  -- a part of what is cut out of a list
  pub cut_part : (s : List A) (a n x y : ℕ) → y ≤ n → between (take n (drop a s)) x y ≡ between s (a + x) (a + y)
  cut_part s a n x y h =
      let same : a + y - (a + x) ≡ y - x = omega arith in
      let cut : take (y - x) (take (n - x) (drop x (drop a s))) ≡ take (y - x) (drop x (drop a s)) = take-take (y - x) (n - x) (drop x (drop a s)) (omega arith) in
      rw (same, drop_take x n (drop a s), cut, drop-drop x a s)

  -- a part of a part
  pub part_part : (s : List A) (a e x y : ℕ) → y ≤ e - a → between (between s a e) x y ≡ between s (a + x) (a + y)
  part_part s a e x y h = cut_part s a (e - a) x y h

-- A part, and the one that follows it.
pub parts_join : (s : List ℕ) (a b c : ℕ) → a ≤ b → b ≤ c → between s a b ++ between s b c ≡ between s a c
parts_join s a b c h k =
    let whole : c - a ≡ (b - a) + (c - b) = omega arith in
    let there : a + (b - a) ≡ b = omega arith in
    sym (rw whole (take-add (b - a) (c - b) (drop a s) ∙ rw (drop-drop (b - a) a s, there)))

-- From a place on: the byte there, and what follows it.
pub drop_here : (s : List ℕ) (at : ℕ) → at < length s → drop at s ≡ get_or s at 0 ∷ drop (at + 1) s
drop_here s at h = rw add-one (drop-cons s at 0 h)

-- A part of a text: its length, and each of its bytes.
pub between_length : (s : List ℕ) (a e : ℕ) → e ≤ length s → length (between s a e) ≡ e - a
between_length s a e h = omega (arith, length-take (e - a) (drop a s), length-drop a s)

pub between_byte : (s : List ℕ) (a e i : ℕ) → a ≤ i → i < e → get_or (between s a e) (i - a) 0 ≡ get_or s i 0
between_byte s a e i h l =
    let there : a + (i - a) ≡ i = omega arith in
    rw (get_or-take (e - a) (drop a s) (i - a) 0 (omega arith), get_or-drop a s (i - a) 0, there)
