-- Runs of ASCII, and characters of three octets.
use Rattle.std.specs.Prelude.{◌≡◌, List, ℕ, ◌≤◌, drop}
use Rattle.ground.specs.Inner.Along.{Along}
use Rattle.text_utf8.specs.declared.sequence.Sequence.{Sequence}
use Rattle.text_utf8.specs.declared.sequence.Sequence.TheVariants.{End, Good, Bad}
use Rattle.text_utf8.specs.Utf8.{sequence_of}

-- all bytes from one place up to another are ASCII
abbrev pub AsciiTo : List ℕ → ℕ → ℕ → Type 0
AsciiTo s at to = Along (λ x. x ≤ 0x7F) s at to

-- a character of three octets stands at a place
pub record Three (s : List ℕ) (at : ℕ) : Type 0 where
  pub code : ℕ
  pub good : sequence_of (drop at s) ≡ Good code 3

-- how many octets a character takes, 0 where there is none
abbrev pub good_length : Sequence → ℕ
good_length End = 0
good_length (Good code length) = length
good_length (Bad length) = 0
