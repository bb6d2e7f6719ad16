-- Laws of `put`. Assumes nothing.
use mathlib.Core.Path.{◌≡◌, refl, sym, ◌∙◌, ap}
use mathlib.Core.List.{List, [], ◌∷◌, ◌++◌, append_assoc}
use Prim.Native.Nat.{ℕ, zero, suc, ◌+◌, ◌-◌, ◌≤◌, ◌<◌}
use native.Mathlib.Nat.{add_assoc, add-zero, zero-add}
use native.Mathlib.Numerals.{add-one}
use native.Mathlib.Omega.{arith}
use lib.ListN.{length, get_or, take, drop, set, replicate, length-append, length-drop, take-append-drop, get_or-append}
use lib.Seq.{paste, set_split, set_at, take-suc, append_snoc, get_or-take, take-length, take_at, drop_at, drop-append-add, drop-drop, length-take-le}
use Rattle.ground.specs.Put.{put}

module _ {A : Type 0} where
  -- a copy loop that went over the whole of `s` has put it
  pub paste_put : (d : List A) (at : ℕ) (s : List A) → paste d at s (length s) ≡ put d at s
  unfolding put
  paste_put d at s = rw take-length (append_assoc (take at d) s (drop (at + length s) d))

  pub put_nothing : (d : List A) (at : ℕ) → put d at [] ≡ d
  unfolding put
  put_nothing d at = rw (add-zero at) (take-append-drop at d)

  pub put_one : (d : List A) (at : ℕ) (x : A) → at < length d → put d at (x ∷ []) ≡ set d at x
  unfolding put
  put_one d at x h = rw (add-one at) (sym (set_split d at x h))

  pub length_put : (d : List A) (at : ℕ) (s : List A) → at + length s ≤ length d → length (put d at s) ≡ length d
  unfolding put
  length_put d at s h = simp (length-append, length-take-le at d (omega arith), length-drop) (omega arith)

  -- two texts put one after the other are their join, put once
  pub put_put : (d : List A) (at : ℕ) (a b : List A) → at + length a ≤ length d → put (put d at a) (at + length a) b ≡ put d at (a ++ b)
  unfolding put
  put_put d at a b h =
      let front : length (take at d ++ a) ≡ at + length a = simp (length-append, length-take-le at d (omega arith)) in
      let whole : take at d ++ (a ++ drop (at + length a) d) ≡ (take at d ++ a) ++ drop (at + length a) d = simp append_assoc in
      let back : drop (at + length a + length b) ((take at d ++ a) ++ drop (at + length a) d) ≡ drop (at + length a + length b) d =
      rw (← front, drop-append-add, drop-drop, front) in
      rw (whole, take_at (take at d ++ a) (drop (at + length a) d) (at + length a) front, back, length-append, ← add_assoc)
      (simp append_assoc)

  -- what stands there already
  pub put_same : (d : List A) (at n : ℕ) → at + n ≤ length d → put d at (take n (drop at d)) ≡ d
  unfolding put
  put_same d at n h =
      let size : length (take n (drop at d)) ≡ n = length-take-le n (drop at d) (omega (arith, length-drop at d)) in
      rw (size, ← drop-drop n at d, take-append-drop n (drop at d)) (take-append-drop at d)

  -- one more in front
  pub put_before : (d : List A) (at : ℕ) (v : List A) (x z : A) → at < length d → set (put d (at + 1) v) at x ≡ put d at (x ∷ v)
  unfolding put
  put_before d at v x z h =
      let front : take (at + 1) d ≡ take at d ++ (get_or d at z ∷ []) = rw (add-one at) (take-suc d at z h) in
      let back : at + 1 + length v ≡ at + suc (length v) = omega arith in
      rw (front, append_snoc (take at d) (get_or d at z) (v ++ drop (at + 1 + length v) d), back)
      (set_at (take at d) (get_or d at z) (v ++ drop (at + suc (length v)) d) x at (length-take-le at d (omega arith)))

  -- what stands before is not touched
  pub get_or_put : (d : List A) (at : ℕ) (v : List A) (i : ℕ) (z : A) → i < at → at ≤ length d → get_or (put d at v) i z ≡ get_or d i z
  unfolding put
  get_or_put d at v i z h k = get_or-append (take at d) (v ++ drop (at + length v) d) z i (rw (length-take-le at d k) h) ∙ get_or-take at d i z h

  -- one more behind what was put
  pub put_set : (d : List A) (at : ℕ) (a : List A) (x : A) → at + length a < length d → set (put d at a) (at + length a) x ≡ put d at (a ++ (x ∷ []))
  put_set d at a x h =
      sym (put_one (put d at a) (at + length a) x (rw (length_put d at a (omega arith)) h)) ∙ put_put d at a (x ∷ []) (omega arith)

  -- what was put is written over by what is as long
  pub put_over : (d : List A) (at : ℕ) (a b : List A) → at + length a ≤ length d → length a ≤ length b → put (put d at a) at b ≡ put d at b
  unfolding put
  put_over d at a b h k =
      let front : length (take at d) ≡ at = length-take-le at d (omega arith) in
      let more : at + length b ≡ length (take at d) + length b = ap (λ n. n + length b) (sym front) in
      let rest : length b ≡ length a + (length b - length a) = omega arith in
      let back : at + length a + (length b - length a) ≡ at + length b = omega arith in
      let dropped : drop (at + length b) (take at d ++ (a ++ drop (at + length a) d)) ≡ drop (at + length b) d =
      ap (λ n. drop n (take at d ++ (a ++ drop (at + length a) d))) more ∙ drop-append-add (take at d) (a ++ drop (at + length a) d) (length b)
      ∙ ap (λ n. drop n (a ++ drop (at + length a) d)) rest ∙ drop-append-add a (drop (at + length a) d) (length b - length a)
      ∙ drop-drop (length b - length a) (at + length a) d ∙ ap (λ n. drop n d) back in
      rw (take_at (take at d) (a ++ drop (at + length a) d) at front, dropped)

  -- it stands there
  pub put_part : (d : List A) (at : ℕ) (a : List A) → at ≤ length d → take (length a) (drop at (put d at a)) ≡ a
  unfolding put
  put_part d at a h =
      rw (drop_at (take at d) (a ++ drop (at + length a) d) at (length-take-le at d h)) (take_at a (drop (at + length a) d) (length a) refl)

  -- put into one element many times over
  drop_same : (k n : ℕ) (z : A) → drop k (replicate n z) ≡ replicate (n - k) z
  drop_same zero n z = let e : n - 0 ≡ n = omega arith in rw e
  drop_same (suc k) zero z = let e : 0 - suc k ≡ 0 = omega arith in rw e
  drop_same (suc k) (suc n) z = let e : suc n - suc k ≡ n - k = omega arith in rw e (drop_same k n z)

  pub put_same_many : (n : ℕ) (z : A) (a : List A) → put (replicate n z) 0 a ≡ a ++ replicate (n - length a) z
  unfolding put
  put_same_many n z a = ap (λ l. a ++ l) (ap (λ k. drop k (replicate n z)) (zero-add (length a)) ∙ drop_same (length a) n z)
