-- Cases are looked for, and taken one by one: each place is inside the text, and each case leaves less. Assumes nothing.
use Rattle.std.specs.Prelude.{Option, Some}
use mathlib.Core.Path.{◌≡◌}
use mathlib.Core.List.{List}
use Prim.Native.Nat.{ℕ, ◌-◌, ◌≤◌, ◌<◌}
use native.Mathlib.Omega.{arith}
use lib.ListN.{length}
use borrow.Author.Rules.{rules}
use Rattle.text_places.specs.Inner.NextLine.{next_line, taken_line}
use Rattle.text_places.proofs.Taking.{Taking, line_past, line_inside, line_falls, line_starts, line_ends}
use Rattle.text_places.specs.declared.lines.NextLine.{NextLine}

-- the first case from a line on is looked for line by line
pub record Seeking (s : List ℕ) («from» at : ℕ) : Type 0 where
  pub past : «from» ≤ at
  pub inside : at ≤ length s

pub seeking_starts : (s : List ℕ) («from» : ℕ) → «from» ≤ length s → Seeking s «from» «from»
seeking_starts s f h = omega arith

pub seeking_next :
    (s : List ℕ) {x : NextLine} {«from» at : ℕ} {t : Option NextLine} → Seeking s «from» at → t ≡ next_line s at → t ≡ Some x → Seeking s «from» x.next
seeking_next s {at = at} k p q = let h = line_past s at p q in let i = line_inside s at p q in omega arith

pub ruleset seeking = (seeking_starts, seeking_next, line_falls, rules)

-- the next case stands after the line that opens this one
pub case_falls :
    (s : List ℕ) {x : NextLine} {at next : ℕ} {t : Option NextLine} → t ≡ next_line s at → t ≡ Some x → x.next ≤ next → at < length s →
    length s - next < length s - at
case_falls s {at = at} p q i h = let l = line_past s at p q in omega arith

pub case_next : (s : List ℕ) {next : ℕ} → next ≤ length s → Taking s next
case_next s h = record { inside = h }

-- for a program that replays one case after another
pub ruleset replaying = (line_inside, line_starts, line_ends, case_falls, case_next, rules)
