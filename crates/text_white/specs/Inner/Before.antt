-- The white space character that ends at a place: what looking back from the end of a text finds.
use Rattle.std.specs.Prelude.{List, ◌≡◌, ℕ, ◌-◌, ◌≤◌, ◌<◌, drop}
use Rattle.ground.specs.Choice.{pick}
use Rattle.text_utf8.specs.declared.sequence.Sequence.{Sequence}
use Rattle.text_utf8.specs.declared.sequence.Sequence.TheVariants.{End, Good, Bad}
use Rattle.text_utf8.specs.Utf8.{sequence_of}
use Rattle.text_white.specs.White.{is_white}

-- the length of the white space character at the head, 0 where there is none
abbrev pub white_length_of : Sequence → ℕ
white_length_of End = 0
white_length_of (Good code length) = pick (is_white code) length 0
white_length_of (Bad length) = 0

abbrev pub white_length : List ℕ → ℕ
white_length s = white_length_of (sequence_of s)

-- `r` bytes before `end` starts the white space character that ends there, or `r` is 0 and there is none
pub record Before (s : List ℕ) («end» r : ℕ) : Type 0 where
  pub fits : r ≤ «end»
  pub found : 0 < r → white_length (drop («end» - r) s) ≡ r
  pub missed : r ≡ 0 → (k : ℕ) → 0 < k → k ≤ «end» → white_length (drop («end» - k) s) ≡ k → ⊥
