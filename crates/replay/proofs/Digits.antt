-- Bytes are read digit by digit. Assumes nothing.
use mathlib.Core.Path.{◌≡◌, ◌∙◌}
use mathlib.Core.List.{List}
use Prim.Native.Nat.{ℕ, ◌+◌, ◌≤◌, ◌<◌}
use native.Mathlib.Omega.{arith}
use lib.ListN.{length, set, length-set}
use borrow.Author.Rules.{rules}

-- bytes are filled from the start, and the line is read from its start, up to a gap behind it
pub record Filling (line : List ℕ) (gap : ℕ) (bytes₀ bytes : List ℕ) (n at : ℕ) : Type 0 where
  pub same : length bytes ≡ length bytes₀
  pub inside : n ≤ length bytes
  pub read : at ≤ length line + gap

pub filling_starts : (line : List ℕ) (gap : ℕ) (bytes : List ℕ) → Filling line gap bytes bytes 0 0
filling_starts line gap bytes = omega arith

pub filling_more : {line : List ℕ} {gap : ℕ} {bytes₀ bytes : List ℕ} {n at : ℕ} (b : ℕ) →
    Filling line gap bytes₀ bytes n at → at + 1 < length line → n < length bytes → Filling line gap bytes₀ (set bytes n b) (n + 1) (at + (2 + gap))
filling_more {bytes = bytes} {n = n} b f h i =
    record { same = length-set bytes n b ∙ f.same; inside = omega (arith, length-set bytes n b); read = omega arith }

pub ruleset filling = (filling_starts, filling_more, rules)
