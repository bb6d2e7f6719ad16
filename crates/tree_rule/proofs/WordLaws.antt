-- Numbers of four bytes, read and written. Assumes nothing.
use mathlib.Core.Path.{◌≡◌, refl, sym, ◌∙◌, ap}
use mathlib.Core.List.{List, [], ◌∷◌, ◌++◌}
use Prim.Native.Nat.{ℕ, suc, ◌+◌, ◌*◌, ◌/◌, ◌%◌, ◌≤◌, ◌<◌}
use native.Mathlib.Nat.{add_assoc, add-zero, div-div-eq-div-mul}
use native.Mathlib.Omega.{arith}
use lib.ListN.{length, get_or, drop}
use lib.Seq.{get_or-drop, drop-cons, drop-drop, drop_at}
use Rattle.tree_rule.specs.Words.{word_at, word_bytes}

-- the four bytes of a number, one after the other
bytes_of : (x : ℕ) → word_bytes x ≡ x % 256 ∷ x / 256 % 256 ∷ x / 256 / 256 % 256 ∷ x / 256 / 256 / 256 % 256 ∷ []
unfolding word_bytes
bytes_of x =
    let two : x / 65536 ≡ x / 256 / 256 = sym (div-div-eq-div-mul x 256 256) in
    let three : x / 16777216 ≡ x / 256 / 256 / 256 =
    sym (ap (λ y. y / 256) (div-div-eq-div-mul x 256 256) ∙ div-div-eq-div-mul x 65536 256) in
    rw (two, three)

-- a number is that of its bytes
pub word_bytes_lem : (x : ℕ) (r : List ℕ) → x < 4294967296 → word_at (word_bytes x ++ r) 0 ≡ x
unfolding word_at
word_bytes_lem x r h =
    rw (bytes_of x) (omega arith)

-- and the bytes are those of the number
four : (a b c d : ℕ) → a < 256 → b < 256 → c < 256 → d < 256 →
    word_bytes (a + 256 * b + 65536 * c + 16777216 * d) ≡ a ∷ b ∷ c ∷ d ∷ []
four a b c d ha hb hc hd =
    let x : ℕ = a + 256 * b + 65536 * c + 16777216 * d in
    let e : x / 256 ≡ b + 256 * c + 65536 * d = omega arith in
    let f : (b + 256 * c + 65536 * d) / 256 ≡ c + 256 * d = omega arith in
    let g : (c + 256 * d) / 256 ≡ d = omega arith in
    let p : x % 256 ≡ a = omega arith in
    let q : (b + 256 * c + 65536 * d) % 256 ≡ b = omega arith in
    let r : (c + 256 * d) % 256 ≡ c = omega arith in
    let s : d % 256 ≡ d = omega arith in
    bytes_of x ∙ rw (p, e, q, f, r, g, s)

-- a number further on
pub word_drop : (s : List ℕ) (a k : ℕ) → word_at (drop a s) k ≡ word_at s (a + k)
unfolding word_at
word_drop s a k =
    rw (
      get_or-drop a s k 0,
      get_or-drop a s (k + 1) 0,
      get_or-drop a s (k + 2) 0,
      get_or-drop a s (k + 3) 0,
      add_assoc a k 1,
      add_assoc a k 2,
      add_assoc a k 3,
    )

pub word_here : (s : List ℕ) (a : ℕ) → word_at (drop a s) 0 ≡ word_at s a
word_here s a = rw (word_drop s a 0, add-zero a)

-- where a number stands that was written
pub word_written : (s : List ℕ) (a x : ℕ) (r : List ℕ) → x < 4294967296 → drop a s ≡ word_bytes x ++ r → word_at s a ≡ x
word_written s a x r h e = sym (word_here s a) ∙ ap (λ l. word_at l 0) e ∙ word_bytes_lem x r h

pub bytes_length : (x : ℕ) → length (word_bytes x) ≡ 4
unfolding word_bytes
bytes_length x = refl

-- what stands behind it
pub past_word_lem : (s : List ℕ) (a x : ℕ) (r : List ℕ) → drop a s ≡ word_bytes x ++ r → drop (a + 4) s ≡ r
past_word_lem s a x r e = sym (drop-drop 4 a s) ∙ ap (drop 4) e ∙ drop_at (word_bytes x) r 4 (bytes_length x)

module _ (s : List ℕ) (small : (i : ℕ) → get_or s i 0 < 256) where
  -- a number that stands in a file is below 2 ^ 32
  pub word_small : (a : ℕ) → word_at s a < 4294967296
  unfolding word_at
  word_small a = omega (arith, small a, small (a + 1), small (a + 2), small (a + 3))

  -- its bytes are those that stand there
  pub word_part : (a : ℕ) → a + 4 ≤ length s → drop a s ≡ word_bytes (word_at s a) ++ drop (a + 4) s
  unfolding word_at
  word_part a h =
      let one : suc a ≡ a + 1 = omega arith in
      let two : suc (a + 1) ≡ a + 2 = omega arith in
      let three : suc (a + 2) ≡ a + 3 = omega arith in
      let last : suc (a + 3) ≡ a + 4 = omega arith in
      rw (
        four (get_or s a 0) (get_or s (a + 1) 0) (get_or s (a + 2) 0) (get_or s (a + 3) 0) (small a) (small (a + 1)) (small (a + 2))
            (small (a + 3)),
        drop-cons s a 0 (omega arith),
        one,
        drop-cons s (a + 1) 0 (omega arith),
        two,
        drop-cons s (a + 2) 0 (omega arith),
        three,
        drop-cons s (a + 3) 0 (omega arith),
        last,
      )
